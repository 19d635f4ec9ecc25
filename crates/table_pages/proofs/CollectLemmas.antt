-- One place changes, and so does one entry.
use Rattle.std.proofs.Common.{◌≡◌, ◌≢◌, ℕ, zero, suc, ◌<◌, ◌≤◌, ◌+◌, inl, inr, Bool, true, false, cond, refl, ap, sym, ◌∙◌, subst, arith}
use Rattle.std.specs.Prelude.{Option, Some, None}
use Rattle.std.specs.Option.{is_some, unwrap_or}
use Rattle.std.specs.declared.cmp.Ordering.{Ordering}
use Rattle.std.specs.declared.cmp.Ordering.TheVariants.{Less, Equal, Greater}
use Rattle.std.specs.Ordering.{is_eq, eq_by_cmp}
use Rattle.std.specs.Cmp.{IsTotalOrder, eq_by_cmp_equiv}
use Rattle.std.specs.FinMap as finite
use Rattle.std.specs.FinMap.{FinMap, IsAntisymmetric, get-insert, get-remove, get-empty, same_map}
use Rattle.std.proofs.lemmas.Bool.{cases_eq}
use Rattle.table_pages.specs.Gathered.{Item, Skip, Bad, Has, joined, collect}

equal : (r : Ordering) → is_eq r ≡ true → r ≡ Equal
equal Less e = cc
equal Equal e = refl
equal Greater e = cc

pub no_Some : {A P : Type 0} (x : A) → ◌≡◌ {A = Option A} (Some x) None → P
no_Some x e = absurd (subst (λ b. cond b (Unit {0}) ⊥) (ap is_some e) tt)

pub same_Some : {A : Type 0} (x y : A) → ◌≡◌ {A = Option A} (Some x) (Some y) → x ≡ y
same_Some x y e = ap (λ o. unwrap_or o x) e

swapped : {A : Type 0} (a b : Bool) (x y z : A) → (a ≡ true → b ≡ true → ⊥) → cond a x (cond b y z) ≡ cond b y (cond a x z)
swapped true true x y z apart = absurd (apart refl refl)
swapped true false x y z apart = refl
swapped false b x y z apart = refl

shadowed : {A : Type 0} (b : Bool) (x y z : A) → cond b x (cond b y z) ≡ cond b x z
shadowed true x y z = refl
shadowed false x y z = refl

not_there : {A : Type 0} (o : Option A) → is_some o ≡ false → o ≡ None
not_there None e = refl
not_there (Some x) e = cc

-- keys that tie are one
pub ties : {K : Type 0} {R : K → K → Ordering} → IsAntisymmetric R → (q k : K) → eq_by_cmp R q k ≡ true → q ≡ k
ties {R = R} same q k e = same q k (equal (R q k) e)

pub itself : {K : Type 0} {R : K → K → Ordering} → IsTotalOrder R → (k : K) → eq_by_cmp R k k ≡ true
itself o k = (eq_by_cmp_equiv o).refl k

module _ {K X : Type 0} {R : K → K → Ordering} (o : IsTotalOrder R) (same : IsAntisymmetric R) where
  -- a key that isn't there, and one that is
  pub apart : (m : FinMap R X) (q k : K) (x : X) → finite.get m q ≡ None → finite.get m k ≡ Some x → eq_by_cmp R q k ≡ false
  apart m q k x none some = elim (eq_by_cmp R q k) as (λ b. eq_by_cmp R q k ≡ b → b ≡ false) [
    | true ↦ λ e. no_Some x (sym some ∙ sym (ap (finite.get m) (ties same q k e)) ∙ none)
    | false ↦ λ e. refl
  ] refl

  pub insert_twice : (m : FinMap R X) (k : K) (x y : X) → finite.insert (finite.insert m k x) k y ≡ finite.insert m k y
  insert_twice m k x y = same_map o same _ _ (λ q. get-insert o (finite.insert m k x) k y q ∙ ap (cond (eq_by_cmp R q k) (Some y)) (get-insert o m k x q)
      ∙ shadowed (eq_by_cmp R q k) (Some y) (Some x) (finite.get m q) ∙ sym (get-insert o m k y q))

  pub insert_swap : (m : FinMap R X) (q k : K) (z y : X) → eq_by_cmp R q k ≡ false → finite.insert (finite.insert m q z) k y ≡ finite.insert (finite.insert m k y) q z
  insert_swap m q k z y ne = same_map o same _ _ (λ p.
      get-insert o (finite.insert m q z) k y p ∙ ap (cond (eq_by_cmp R p k) (Some y)) (get-insert o m q z p)
      ∙ swapped (eq_by_cmp R p k) (eq_by_cmp R p q) (Some y) (Some z) (finite.get m p) (λ a b. let e : true ≡ false = sym (itself o k) ∙ ap (λ r. eq_by_cmp R r k) (sym (ties same p k a) ∙ ties same p q b) ∙ ne in cc)
      ∙ sym (get-insert o (finite.insert m k y) q z p ∙ ap (cond (eq_by_cmp R p q) (Some z)) (get-insert o m k y p)))

  pub get_other : (m : FinMap R X) (q k : K) (y : X) → eq_by_cmp R q k ≡ false → finite.get (finite.insert m k y) q ≡ finite.get m q
  get_other m q k y ne = get-insert o m k y q ∙ ap (λ b. cond b (Some y) (finite.get m q)) ne

  pub get_same : (m : FinMap R X) (k : K) (y : X) → finite.get (finite.insert m k y) k ≡ Some y
  get_same m k y = get-insert o m k y k ∙ ap (λ b. cond b (Some y) (finite.get m k)) (itself o k)

  -- what a place that was joined left
  pub record Left (item : Item K X) (old : Option (FinMap R X)) (m : FinMap R X) : Type 0 where
    pub before : FinMap R X
    pub was : old ≡ Some before
    pub joins : joined item (Some before) ≡ Some m

  pub left : (item : Item K X) (old : Option (FinMap R X)) (m : FinMap R X) → joined item old ≡ Some m → Left item old m
  left item None m e = no_Some m (sym e)
  left item (Some b) m e = record { before = b; was = refl; joins = e }

  pub record Joins (k : K) (x : X) (before m : FinMap R X) : Type 0 where
    pub new : finite.get before k ≡ None
    pub is : m ≡ finite.insert before k x

  joins_by : (b : Bool) (k : K) (x : X) (before m : FinMap R X) → finite.contains_key before k ≡ b → cond b None (Some (finite.insert before k x)) ≡ Some m → Joins k x before m
  joins_by true k x before m c e = no_Some m (sym e)
  joins_by false k x before m c e = record { new = not_there (finite.get before k) c; is = sym (same_Some _ _ e) }

  pub has_joined : (k : K) (x : X) (before m : FinMap R X) → joined (Has k x) (Some before) ≡ Some m → Joins k x before m
  has_joined k x before m e = joins_by (finite.contains_key before k) k x before m refl e

  pub join_new : (k : K) (x : X) (before : FinMap R X) → finite.get before k ≡ None → joined (Has k x) (Some before) ≡ Some (finite.insert before k x)
  join_new k x before none = ap (λ b. cond b None (Some (finite.insert before k x))) (ap is_some none)

  -- the entry of a place is in the map
  pub collect_at : (f : ℕ → Item K X) (n i : ℕ) (m : FinMap R X) (k : K) (x : X) → collect f n ≡ Some m → i < n → f i ≡ Has k x → finite.get m k ≡ Some x
  collect_at f zero i m k x e lt is = absurd (omega arith)
  collect_at f (suc n) i m k x e lt is =
      let l = left (f n) (collect f n) m e in
      elim (cases_eq i n) [
        | inl here ↦
            let j = has_joined k x l.before m (ap (λ item. joined item (Some l.before)) (sym (ap f (sym here) ∙ is)) ∙ l.joins) in
            ap (λ t. finite.get t k) j.is ∙ get_same l.before k x
        | inr ne ↦
            let low : finite.get l.before k ≡ Some x = collect_at f n i l.before k x l.was (omega arith) is in
            elim (f n) as (λ item. joined item (Some l.before) ≡ Some m → finite.get m k ≡ Some x) [
              | Skip ↦ λ j. ap (λ t. finite.get t k) (sym (same_Some l.before m j)) ∙ low
              | Bad ↦ λ j. no_Some m (sym j)
              | Has q z ↦ λ j. let h = has_joined q z l.before m j in
                  ap (λ t. finite.get t k) h.is ∙ get_other l.before k q z ((eq_by_cmp_equiv o).symm k q ∙ apart l.before q k x h.new low) ∙ low
            ] l.joins
      ]

  pub collect_same : (f g : ℕ → Item K X) (n : ℕ) → ((i : ℕ) → i < n → g i ≡ f i) → collect {R = R} g n ≡ collect f n
  collect_same f g zero h = refl
  collect_same f g (suc n) h = λ t. joined (h n (omega arith) t) (collect_same f g n (λ i lt. h i (omega arith)) t)

  -- behind a place that changed its entry
  past : (item : Item K X) (before m : FinMap R X) (k : K) (y : X) → joined item (Some before) ≡ Some m → ((q : K) (z : X) → item ≡ Has q z → eq_by_cmp R q k ≡ false) → joined item (Some (finite.insert before k y)) ≡ Some (finite.insert m k y)
  past Skip before m k y e ne = ap (λ (t : FinMap R X). Some (finite.insert t k y)) (same_Some before m e)
  past Bad before m k y e ne = no_Some m (sym e)
  past (Has q z) before m k y e ne =
      let h = has_joined q z before m e in
      join_new q z (finite.insert before k y) (get_other before q k y (ne q z refl) ∙ h.new)
      ∙ ap (λ (t : FinMap R X). Some t) (sym (insert_swap before q k z y (ne q z refl)) ∙ ap (λ t. finite.insert t k y) (sym h.is))

  -- a place takes another value at its key
  pub collect_set : (f g : ℕ → Item K X) (n p : ℕ) (m : FinMap R X) (k : K) (x y : X) → collect f n ≡ Some m → p < n → f p ≡ Has k x → g p ≡ Has k y → ((i : ℕ) → i ≢ p → g i ≡ f i) → collect g n ≡ Some (finite.insert m k y)
  collect_set f g zero p m k x y e lt old new rest = absurd (omega arith)
  collect_set f g (suc n) p m k x y e lt old new rest =
      let l = left (f n) (collect f n) m e in
      elim (cases_eq p n) [
        | inl here ↦
            let h = has_joined k x l.before m (ap (λ item. joined item (Some l.before)) (sym (ap f (sym here) ∙ old)) ∙ l.joins) in
            let same_front : collect g n ≡ Some l.before = collect_same f g n (λ i low. rest i (λ is. let no : i < i = omega arith in omega arith)) ∙ l.was in
            (λ t. joined ((ap g (sym here) ∙ new) t) (same_front t)) ∙ join_new k y l.before h.new
            ∙ ap (λ (t : FinMap R X). Some t) (sym (insert_twice l.before k x y) ∙ ap (λ t. finite.insert t k y) (sym h.is))
        | inr ne ↦
            let lower : p < n = omega arith in
            let low : finite.get l.before k ≡ Some x = collect_at f n p l.before k x l.was lower old in
            (λ t. joined (rest n (λ is. ne (sym is)) t) (collect_set f g n p l.before k x y l.was lower old new rest t))
            ∙ past (f n) l.before m k y l.joins (λ q z is. apart l.before q k x (has_joined q z l.before m (ap (λ item. joined item (Some l.before)) (sym is) ∙ l.joins)).new low)
      ]

  -- an empty place takes a key that isn't there
  pub collect_new : (f g : ℕ → Item K X) (n p : ℕ) (m : FinMap R X) (k : K) (y : X) → collect f n ≡ Some m → p < n → f p ≡ Skip → finite.get m k ≡ None → g p ≡ Has k y → ((i : ℕ) → i ≢ p → g i ≡ f i) → collect g n ≡ Some (finite.insert m k y)
  collect_new f g zero p m k y e lt old none new rest = absurd (omega arith)
  collect_new f g (suc n) p m k y e lt old none new rest =
      let l = left (f n) (collect f n) m e in
      elim (cases_eq p n) [
        | inl here ↦
            let h : l.before ≡ m = same_Some l.before m (ap (λ item. joined item (Some l.before)) (sym (ap f (sym here) ∙ old)) ∙ l.joins) in
            let same_front : collect g n ≡ Some l.before = collect_same f g n (λ i low. rest i (λ is. omega arith)) ∙ l.was in
            (λ t. joined ((ap g (sym here) ∙ new) t) (same_front t)) ∙ join_new k y l.before (ap (λ t. finite.get t k) h ∙ none)
            ∙ ap (λ (t : FinMap R X). Some (finite.insert t k y)) h
        | inr ne ↦
            let lower : p < n = omega arith in
            let differs : (q : K) (z : X) → f n ≡ Has q z → eq_by_cmp R q k ≡ false = λ q z is.
            let h = has_joined q z l.before m (ap (λ item. joined item (Some l.before)) (sym is) ∙ l.joins) in
            (eq_by_cmp_equiv o).symm q k ∙ apart m k q z none (ap (λ t. finite.get t q) h.is ∙ get_same l.before q z) in
            (λ t. joined (rest n (λ is. ne (sym is)) t) (collect_new f g n p l.before k y l.was lower old (below (f n) l.before m k l.joins differs none) new rest t))
            ∙ past (f n) l.before m k y l.joins differs
      ]
    where
      below : (item : Item K X) (before m : FinMap R X) (k : K) → joined item (Some before) ≡ Some m → ((q : K) (z : X) → item ≡ Has q z → eq_by_cmp R q k ≡ false) → finite.get m k ≡ None → finite.get before k ≡ None
      below Skip before m k e ne none = ap (λ t. finite.get t k) (same_Some before m e) ∙ none
      below Bad before m k e ne none = no_Some m (sym e)
      below (Has q z) before m k e ne none =
          let h = has_joined q z before m e in
          sym (get_other before k q z ((eq_by_cmp_equiv o).symm k q ∙ ne q z refl)) ∙ ap (λ t. finite.get t k) (sym h.is) ∙ none

  -- no place holds an entry
  pub collect_none : (f : ℕ → Item K X) (n : ℕ) → ((i : ℕ) → i < n → f i ≡ Skip) → collect {R = R} f n ≡ Some finite.empty
  collect_none f zero h = refl
  collect_none f (suc n) h = λ t. joined (h n (omega arith) t) (collect_none f n (λ i lt. h i (omega arith)) t)

  -- a key that no place holds
  pub collect_lacks : (f : ℕ → Item K X) (n : ℕ) (m : FinMap R X) (k : K) → collect f n ≡ Some m → ((i : ℕ) (x : X) → i < n → f i ≢ Has k x) → finite.get m k ≡ None
  collect_lacks f zero m k e h = ap (λ t. finite.get t k) (sym (same_Some _ _ e)) ∙ get-empty R k
  collect_lacks f (suc n) m k e h =
      let l = left (f n) (collect f n) m e in
      let low : finite.get l.before k ≡ None = collect_lacks f n l.before k l.was (λ i x lt. h i x (omega arith)) in
      lacks_step (f n) l.before m k l.joins (λ x. h n x (omega arith)) low
    where
      differs : (q : K) (z : X) (k : K) → ((x : X) → Has q z ≢ Has k x) → eq_by_cmp R k q ≡ false
      differs q z k h = elim (eq_by_cmp R k q) as (λ b. eq_by_cmp R k q ≡ b → b ≡ false) [
        | true ↦ λ e. absurd (h z (ap (λ (t : K). Has t z) (sym (ties same k q e))))
        | false ↦ λ e. refl
      ] refl

      lacks_step : (item : Item K X) (before m : FinMap R X) (k : K) → joined item (Some before) ≡ Some m → ((x : X) → item ≢ Has k x) → finite.get before k ≡ None → finite.get m k ≡ None
      lacks_step Skip before m k e h none = ap (λ t. finite.get t k) (sym (same_Some before m e)) ∙ none
      lacks_step Bad before m k e h none = no_Some m (sym e)
      lacks_step (Has q z) before m k e h none =
          let j = has_joined q z before m e in
          ap (λ t. finite.get t k) j.is ∙ get_other before k q z (differs q z k h) ∙ none

  -- the front of what could be gathered could be gathered
  pub collect_front : (f : ℕ → Item K X) (n i : ℕ) (m : FinMap R X) → collect f n ≡ Some m → i ≤ n → (b : FinMap R X) × (collect f i ≡ Some b)
  collect_front f zero i m e le = (m, (let h : i ≡ 0 = omega arith in ap (collect f) h ∙ e))
  collect_front f (suc n) i m e le =
      let l = left (f n) (collect f n) m e in
      elim (cases_eq i (suc n)) [
        | inl here ↦ (m, ap (collect f) here ∙ e)
        | inr ne ↦ collect_front f n i l.before l.was (omega arith)
      ]

  -- no place that was gathered is bad
  pub collect_good : (f : ℕ → Item K X) (n i : ℕ) (m : FinMap R X) → collect f n ≡ Some m → i < n → f i ≢ Bad
  collect_good f n i m e lt bad =
      let c = collect_front f n (suc i) m e (omega arith) in
      let l = left (f i) (collect f i) c.0 c.1 in
      no_Some c.0 (sym (ap (λ item. joined item (Some l.before)) (sym bad) ∙ l.joins))

  -- empty places at the end
  pub collect_tail : (f : ℕ → Item K X) (n d : ℕ) → ((i : ℕ) → n ≤ i → f i ≡ Skip) → collect {R = R} f (n + d) ≡ collect f n
  collect_tail f n zero h = let e : n + 0 ≡ n = omega arith in ap (collect f) e
  collect_tail f n (suc d) h =
      let next : n + suc d ≡ suc (n + d) = omega arith in
      ap (collect f) next ∙ skip (f (n + d)) (collect f (n + d)) (h (n + d) (omega arith)) ∙ collect_tail f n d h
    where
      skip : (item : Item K X) (old : Option (FinMap R X)) → item ≡ Skip → joined item old ≡ old
      skip item None e = refl
      skip item (Some m) e = ap (λ t. joined t (Some m)) e

  -- A PLACE GIVES UP ITS ENTRY

  -- one place holds a key
  pub collect_once : (f : ℕ → Item K X) (n i j : ℕ) (m : FinMap R X) (k : K) (x y : X) → collect f n ≡ Some m → i < n → j < n → f i ≡ Has k x → f j ≡ Has k y → i ≡ j
  collect_once f zero i j m k x y e li lj a b = absurd (omega arith)
  collect_once f (suc n) i j m k x y e li lj a b =
      let l = left (f n) (collect f n) m e in
      elim (cases_eq i n) [
        | inl here ↦ elim (cases_eq j n) [
          | inl there ↦ omega arith
          | inr ne ↦
              let h = has_joined k x l.before m (ap (λ item. joined item (Some l.before)) (sym (ap f (sym here) ∙ a)) ∙ l.joins) in
              no_Some y (sym (collect_at f n j l.before k y l.was (omega arith) b) ∙ h.new)
        ]
        | inr ne ↦ elim (cases_eq j n) [
          | inl there ↦
              let h = has_joined k y l.before m (ap (λ item. joined item (Some l.before)) (sym (ap f (sym there) ∙ b)) ∙ l.joins) in
              no_Some x (sym (collect_at f n i l.before k x l.was (omega arith) a) ∙ h.new)
          | inr other ↦ collect_once f n i j l.before k x y l.was (omega arith) (omega arith) a b
        ]
      ]

  remove_swap : (m : FinMap R X) (q k : K) (z : X) → eq_by_cmp R q k ≡ false → finite.insert (finite.remove m k) q z ≡ finite.remove (finite.insert m q z) k
  remove_swap m q k z ne = same_map o same _ _ (λ p. sym (
      get-remove o (finite.insert m q z) k p ∙ ap (cond (eq_by_cmp R p k) None) (get-insert o m q z p)
      ∙ swapped (eq_by_cmp R p k) (eq_by_cmp R p q) None (Some z) (finite.get m p) (λ a b. let e : true ≡ false = sym (itself o k) ∙ ap (λ r. eq_by_cmp R r k) (sym (ties same p k a) ∙ ties same p q b) ∙ ne in cc)
      ∙ sym (get-insert o (finite.remove m k) q z p ∙ ap (cond (eq_by_cmp R p q) (Some z)) (get-remove o m k p))))

  remove_new : (m : FinMap R X) (k : K) (x : X) → finite.get m k ≡ None → finite.remove (finite.insert m k x) k ≡ m
  remove_new m k x none = same_map o same _ _ (λ p. get-remove o (finite.insert m k x) k p ∙ ap (cond (eq_by_cmp R p k) None) (get-insert o m k x p) ∙ at p (eq_by_cmp R p k) refl)
    where
      at : (p : K) (b : Bool) → eq_by_cmp R p k ≡ b → cond b None (cond b (Some x) (finite.get m p)) ≡ finite.get m p
      at p true e = sym (ap (finite.get m) (ties same p k e) ∙ none)
      at p false e = refl

  -- a key that isn't there is removed
  pub remove_absent : (m : FinMap R X) (k : K) → finite.get m k ≡ None → finite.remove m k ≡ m
  remove_absent m k none = same_map o same _ _ (λ p. get-remove o m k p ∙ at p (eq_by_cmp R p k) refl)
    where
      at : (p : K) (b : Bool) → eq_by_cmp R p k ≡ b → cond b None (finite.get m p) ≡ finite.get m p
      at p true e = sym (ap (finite.get m) (ties same p k e) ∙ none)
      at p false e = refl

  pub get_left : (m : FinMap R X) (q k : K) → eq_by_cmp R q k ≡ false → finite.get (finite.remove m k) q ≡ finite.get m q
  get_left m q k ne = get-remove o m k q ∙ ap (λ b. cond b None (finite.get m q)) ne

  -- behind a place that gave up its entry
  past_cut : (item : Item K X) (before m : FinMap R X) (k : K) → joined item (Some before) ≡ Some m → ((q : K) (z : X) → item ≡ Has q z → eq_by_cmp R q k ≡ false) → joined item (Some (finite.remove before k)) ≡ Some (finite.remove m k)
  past_cut Skip before m k e ne = ap (λ (t : FinMap R X). Some (finite.remove t k)) (same_Some before m e)
  past_cut Bad before m k e ne = no_Some m (sym e)
  past_cut (Has q z) before m k e ne =
      let h = has_joined q z before m e in
      join_new q z (finite.remove before k) (get_left before q k (ne q z refl) ∙ h.new)
      ∙ ap (λ (t : FinMap R X). Some t) (remove_swap before q k z (ne q z refl) ∙ ap (λ t. finite.remove t k) (sym h.is))

  -- a place gives up its entry
  pub collect_cut : (f g : ℕ → Item K X) (n p : ℕ) (m : FinMap R X) (k : K) (x : X) → collect f n ≡ Some m → p < n → f p ≡ Has k x → g p ≡ Skip → ((i : ℕ) → i ≢ p → g i ≡ f i) → collect g n ≡ Some (finite.remove m k)
  collect_cut f g zero p m k x e lt old new rest = absurd (omega arith)
  collect_cut f g (suc n) p m k x e lt old new rest =
      let l = left (f n) (collect f n) m e in
      elim (cases_eq p n) [
        | inl here ↦
            let h = has_joined k x l.before m (ap (λ item. joined item (Some l.before)) (sym (ap f (sym here) ∙ old)) ∙ l.joins) in
            let same_front : collect g n ≡ Some l.before = collect_same f g n (λ i low. rest i (λ is. let no : i < i = omega arith in omega arith)) ∙ l.was in
            (λ t. joined ((ap g (sym here) ∙ new) t) (same_front t))
            ∙ ap (λ (t : FinMap R X). Some t) (sym (remove_new l.before k x h.new) ∙ ap (λ t. finite.remove t k) (sym h.is))
        | inr ne ↦
            let lower : p < n = omega arith in
            let low : finite.get l.before k ≡ Some x = collect_at f n p l.before k x l.was lower old in
            (λ t. joined (rest n (λ is. ne (sym is)) t) (collect_cut f g n p l.before k x l.was lower old new rest t))
            ∙ past_cut (f n) l.before m k l.joins (λ q z is. apart l.before q k x (has_joined q z l.before m (ap (λ item. joined item (Some l.before)) (sym is) ∙ l.joins)).new low)
      ]
