-- What was read of a table, with one page more.
use Rattle.std.proofs.Common.{refl, reverse, ◌≡◌, ◌≢◌, ◌⊎◌, ℕ, zero, suc, ◌+◌, ◌<◌, List, [], ◌∷◌, ◌++◌, length, get_or, ap, sym, ◌∙◌, subst, arith, Bool, true, false, cond, Ok, Err, inl, inr, length-append}
use Rattle.std.specs.Prelude.{Option, Some, None, option_to_list, IfSome, IsSome, nat_lt, ◌↔◌}
use Rattle.std.specs.Option.{is_some}
use Rattle.std.specs.Ordering.{is_eq}
use Rattle.std.specs.BTreeMap as tree
use Rattle.std.proofs.lemmas.Bool.{ltb-true}
use Rattle.std.specs.List.{Any, All}
use Rattle.std.specs.BTreeMap.{BTreeMap}
use Rattle.std.proofs.lemmas.List.{get_or_append_left, reverse-append, reverse-reverse}
use Rattle.std.proofs.lemmas.List.Quantifiers.{Any-push, all_pairs_push}
use Rattle.page_base.specs.declared.numbers.PageId.{PageId}
use Rattle.page_base.specs.Pages.{is_page}
use Rattle.page_fmt.specs.Seen.{Looked, SlotsAt, Saw, Shows, look, place_of}
use Rattle.page_fmt.proofs.SeenLemmas.{is_page-same, is_page-true}
use Rattle.plain_model.specs.Tables.{Rows}
use Rattle.page_base.specs.declared.column.Column.{Column}
use Rattle.table_walk.specs.declared.visit.Visit.{Visit}
use Rattle.table_walk.specs.declared.refusal.SeenRefusal.{SeenRefusal}
use Rattle.table_walk.specs.declared.refusal.SeenRefusal.TheVariants.{Damaged, Memory}
use Rattle.table_walk.specs.Answers.{IsAt, IsOn, IsMemory}
use Rattle.table_walk.specs.Index.{Indexes, page_cmp}
use Rattle.table_walk.proofs.IndexLemmas.{index_new}
use Rattle.table_walk.proofs.RowsLemmas.{same_Some}
use Rattle.table_walk.specs.Tables.{HasRows}
use Rattle.table_walk.specs.Walk.{IsSeenWalk, IsBad, Lacks}
use Rattle.table_walk.proofs.WalkLemmas.{walks-snoc, walks-same, never_bad, is_ahead}
use Rattle.page_tables.specs.Layout.{shape, first}
use Rattle.table_scan.specs.Scanned.{Scanned, IsNextOf, IsScan, IsUnderWay, IsWalking, IsBadThen, ahead, with_page}

-- a page that was read stays as it was read
look_more : (xs : List Looked) (x : Looked) (p : PageId) → Saw xs p → Saw (xs ++ x ∷ []) p × (look (xs ++ x ∷ []) p ≡ look xs p)
look_more [] x p h = absurd (omega arith)
look_more (y ∷ ys) x p h = by (is_page y.page p) h (λ g. look_more ys x p g)
  where
    by : (b : Bool) → cond b 0 (place_of ys p + 1) < length (y ∷ ys) → (Saw ys p → Saw (ys ++ x ∷ []) p × (look (ys ++ x ∷ []) p ≡ look ys p))
        → (cond b 0 (place_of (ys ++ x ∷ []) p + 1) < length (y ∷ (ys ++ x ∷ []))) × (cond b y.slots (look (ys ++ x ∷ []) p) ≡ cond b y.slots (look ys p))
    by true g later = (omega arith, refl)
    by false g later = let more = later (omega arith) in (omega (arith, more.0), more.1)

-- and the new one is read as it is
look_new : (xs : List Looked) (x : Looked) → ¬ Saw xs x.page → Saw (xs ++ x ∷ []) x.page × (look (xs ++ x ∷ []) x.page ≡ x.slots)
look_new [] x new = by (is_page x.page x.page) (is_page-same x.page)
  where
    by : (b : Bool) → b ≡ true → (cond {A = ℕ} b 0 (0 + 1) < 1) × (cond b x.slots [] ≡ x.slots)
    by true e = (omega arith, refl)
    by false e = absurd (let f : false ≡ true = e in cc)
look_new (y ∷ ys) x new = by (is_page y.page x.page) new (λ g. look_new ys x g)
  where
    by : (b : Bool) → ¬ (cond b 0 (place_of ys x.page + 1) < length (y ∷ ys)) → (¬ Saw ys x.page → Saw (ys ++ x ∷ []) x.page × (look (ys ++ x ∷ []) x.page ≡ x.slots))
        → (cond b 0 (place_of (ys ++ x ∷ []) x.page + 1) < length (y ∷ (ys ++ x ∷ []))) × (cond b y.slots (look (ys ++ x ∷ []) x.page) ≡ x.slots)
    by true g later = absurd (g (omega arith))
    by false g later = let more = later (λ s. g (omega (arith, s))) in (omega (arith, more.0), more.1)

-- a page that was read then was read before, or is the new one
saw_one : (xs : List Looked) (x : Looked) (p : PageId) → Saw (xs ++ x ∷ []) p → Saw xs p ⊎ (x.page ≡ p)
saw_one [] x p h = by (is_page x.page p) refl h
  where
    by : (b : Bool) → is_page x.page p ≡ b → cond {A = ℕ} b 0 (0 + 1) < 1 → Saw [] p ⊎ (x.page ≡ p)
    by true e g = inr (is_page-true x.page p e)
    by false e g = absurd (omega arith)
saw_one (y ∷ ys) x p h = by (is_page y.page p) h (λ g. saw_one ys x p g)
  where
    by : (b : Bool) → cond b 0 (place_of (ys ++ x ∷ []) p + 1) < length (y ∷ (ys ++ x ∷ [])) → (Saw (ys ++ x ∷ []) p → Saw ys p ⊎ (x.page ≡ p)) → (cond b 0 (place_of ys p + 1) < length (y ∷ ys)) ⊎ (x.page ≡ p)
    by true g later = inl (omega arith)
    by false g later = elim (later (omega arith)) [
      | inl old ↦ inl (omega (arith, old))
      | inr new ↦ inr new
    ]

pub began : (root : PageId) (places : BTreeMap PageId ℕ) → Indexes places [] → IsUnderWay root [] places (first root ∷ [])
began root places index = record {
  done = [];
  walk = record { walk = record { walks = refl; once = λ i j d a b. absurd (omega arith) }; were = λ k d h. absurd (omega arith) };
  reached = λ p h. absurd (omega arith);
  index = index;
}

-- the walk over what was read, as it is with one page more
same_walk : (root : PageId) (seen : List Looked) (x : Looked) (done rest : List Visit) → IsSeenWalk shape.kids seen (first root) done rest → IsSeenWalk shape.kids (seen ++ x ∷ []) (first root) done rest
same_walk root seen x done rest w = record {
  walk = record {
    walks = walks-same shape.kids (look seen) (look (seen ++ x ∷ [])) (first root ∷ []) done rest (λ k d lt. sym (look_more seen x (get_or done k d).page (w.were k d lt)).1) w.walk.walks;
    once = w.walk.once;
  };
  were = λ k d lt. (look_more seen x (get_or done k d).page (w.were k d lt)).0;
}

all_push : (P : Visit → Type 0) (xs : List Visit) (v : Visit) → All P xs → P v → All P (xs ++ v ∷ [])
all_push P [] v a p zero d h = p
all_push P [] v a p (suc k) d h = absurd (omega arith)
all_push P (x ∷ xs) v a p zero d h = a 0 d (omega arith)
all_push P (x ∷ xs) v a p (suc k) d h = all_push P xs v (λ j e lt. a (suc j) e (omega arith)) p k d (omega arith)

any_left : (P : Visit → Type 0) (xs : List Visit) (v : Visit) → Any P xs → Any P (xs ++ v ∷ [])
any_left P xs v a = (a.0, a.1, omega (arith, a.2, length-append xs (v ∷ [])), get_or_append_left xs (v ∷ []) a.1 a.0 a.2 ∙ a.3, a.4)

pub more : (root : PageId) (seen : List Looked) (places new : BTreeMap PageId ℕ) (v : Visit) (slots : List (List ℕ)) (rest next : List Visit)
    → IsUnderWay root seen places (v ∷ rest) → ¬ Saw seen v.page → shape.kids v slots ≡ Ok next → Indexes new (with_page seen v.page slots)
    → IsUnderWay root (with_page seen v.page slots) new (next ++ rest)
more root seen places new v slots rest next u fresh kids index =
    let x : Looked = record { page = v.page; slots = slots } in
    let same = same_walk root seen x u.done (v ∷ rest) u.walk in
    let read = look_new seen x fresh in
    let apart : (k : ℕ) (d : Visit) → k < length u.done → (get_or u.done k d).page ≢ v.page =
    λ k d lt e. fresh (subst (λ p. Saw seen p) e (u.walk.were k d lt)) in
    record {
      done = u.done ++ v ∷ [];
      walk = record {
        walk = record {
          walks = walks-snoc shape.kids (look (seen ++ x ∷ [])) (first root ∷ []) u.done rest next v same.walk.walks (ap (shape.kids v) read.1 ∙ kids);
          once = all_pairs_push (λ a b. a.page ≢ b.page) u.done v u.walk.walk.once apart;
        };
        were = all_push (λ w. Saw (seen ++ x ∷ []) w.page) u.done v same.were read.0;
      };
      reached = λ p h. elim (saw_one seen x p h) [
        | inl old ↦ any_left (λ w. w.page ≡ p) u.done v (u.reached p old)
        | inr is ↦ Any-push (λ w. w.page ≡ p) u.done v is
      ];
      index = index;
    }

-- a slot of the page that was read now names none
pub bad_page : (root : PageId) (seen : List Looked) (places : BTreeMap PageId ℕ) (v : Visit) (slots : List (List ℕ)) (rest : List Visit) → IsUnderWay root seen places (v ∷ rest) → ¬ Saw seen v.page
    → (e : SeenRefusal) → IsOn v.page (λ slot. shape.kids v slots ≡ Err slot) e → IsAt (IsBad shape.kids (with_page seen v.page slots) (first root)) e
bad_page root seen places v slots rest u fresh (Damaged page slot) b =
    let x : Looked = record { page = v.page; slots = slots } in
    let read = look_new seen x fresh in
    (u.done, rest, v, same_walk root seen x u.done (v ∷ rest) u.walk, read.0, inl (b.0, ap (shape.kids v) read.1 ∙ b.1))
bad_page root seen places v slots rest u fresh Memory b = tt

-- the visit that is to come next is to a page that was read
pub bad_next : (root : PageId) (seen : List Looked) (places : BTreeMap PageId ℕ) (v : Visit) (rest : List Visit) → IsUnderWay root seen places (v ∷ rest) → Saw seen v.page
    → (e : SeenRefusal) → e ≡ Damaged v.from v.slot → IsAt (IsBad shape.kids seen (first root)) e
bad_next root seen places v rest u saw e is =
    subst (IsAt (IsBad shape.kids seen (first root))) (sym is) (u.done, rest, v, u.walk, saw, inr (refl, refl, u.reached v.page saw))

-- visits behind those that a page names
pub stacked : (stack left turned next : List Visit) (last : Option Visit) → stack ++ turned ≡ left ++ option_to_list last → turned ≡ reverse next → next ++ reverse stack ≡ ahead last left
stacked stack left turned next last e is =
    (λ i. sym (reverse-reverse next) i ++ reverse stack) ∙ (λ i. reverse (sym is i) ++ reverse stack) ∙ sym (reverse-append stack turned) ∙ ap reverse e ∙ reverse-append left (option_to_list last) ∙ by last
  where
    by : (o : Option Visit) → reverse (option_to_list o) ++ reverse left ≡ option_to_list o ++ reverse left
    by None = refl
    by (Some v) = refl

-- what comes next, and that it wasn't read
pub walking : (root : PageId) (seen : List Looked) (places : BTreeMap PageId ℕ) (stack : List Visit) (next : Option Visit) → IsUnderWay root seen places (ahead next stack) → IfSome next (λ v. ¬ Saw seen v.page) → (next ≡ None → stack ≡ []) → IsWalking root seen places stack next
walking root seen places stack None u new last =
    record { way = u; scan = (u.done, subst (λ s. IsSeenWalk shape.kids seen (first root) u.done (reverse s)) (last refl) u.walk); last = last }
walking root seen places stack (Some v) u new last = record { way = u; scan = (u.done, reverse stack, u.walk, new); last = last }

-- the page's place is known from then on
pub indexed : (seen : List Looked) (v : Visit) (slots : List (List ℕ)) (places new : BTreeMap PageId ℕ) (n : ℕ) → Indexes places seen → ¬ Saw seen v.page → n ≡ length seen
    → ((q : PageId) → tree.get page_cmp new q ≡ cond (is_eq (page_cmp v.page q)) (Some n) (tree.get page_cmp places q)) → Indexes new (with_page seen v.page slots)
indexed seen v slots places new n index fresh long put q =
    let x : Looked = record { page = v.page; slots = slots } in
    put q ∙ (λ i. cond (is_eq (page_cmp v.page q)) (Some (long i)) (index q i)) ∙ index_new seen x q (by (nat_lt (place_of seen v.page) (length seen)) refl)
  where
    by : (b : Bool) → nat_lt (place_of seen v.page) (length seen) ≡ b → is_some (cond b (Some (place_of seen v.page)) None) ≡ false
    by true e = absurd (fresh (ltb-true (place_of seen v.page) (length seen) e))
    by false e = refl

-- nothing is left on the stack where nothing comes next
none_left : (next : Option Visit) (n : ℕ) (all left : List Visit) → n ≡ length all → all ≡ left ++ option_to_list next → IsSome next ↔ (0 < n) → next ≡ None → left ≡ []
none_left next n all left long e some none = by left (λ lt. empty (subst (λ o. IsSome o) none (some.1 (omega (arith, long, ap length e, length-append left (option_to_list next), lt)))))
  where
    empty : IsSome {T = Visit} None → ⊥
    empty f = absurd (let wrong : false ≡ true = f in cc)

    by : (xs : List Visit) → (0 < length xs → ⊥) → xs ≡ []
    by [] f = refl
    by (x ∷ xs) f = absurd (f (omega arith))

module _ (root : PageId) (seen : List Looked) (places : BTreeMap PageId ℕ) (stack : List Visit) (was : Option Visit) (v : Visit) (w : IsWalking root seen places stack was) (is : was ≡ Some v) where
  pub fresh_next : ¬ Saw seen v.page
  fresh_next = (let lacks : Lacks shape.kids seen (first root) v = subst (IsNextOf seen root) is w.scan in lacks.3)

  way_on : IsUnderWay root seen places (v ∷ reverse stack)
  way_on = subst (λ o. IsUnderWay root seen places (ahead o stack)) is w.way

  pub read_bad : (slots : List (List ℕ)) (e : SeenRefusal) → IsOn v.page (λ slot. shape.kids v slots ≡ Err slot) e → IsAt (IsBadThen (record { root = root; seen = seen; next = was }) slots) e
  read_bad slots (Damaged page slot) b =
      λ u next. subst (λ (x : Visit). IsBad shape.kids (with_page seen x.page slots) (first root) page slot) (same_Some v u (sym is ∙ next)) (bad_page root seen places v slots (reverse stack) way_on fresh_next (Damaged page slot) b)
  read_bad slots Memory b = tt

  pub read_way : (slots : List (List ℕ)) (new : BTreeMap PageId ℕ) (kids turned appended left : List Visit) (next : Option Visit) → shape.kids v slots ≡ Ok kids → Indexes new (with_page seen v.page slots)
      → turned ≡ reverse kids → appended ≡ stack ++ turned → appended ≡ left ++ option_to_list next → IsUnderWay root (with_page seen v.page slots) new (ahead next left)
  read_way slots new kids turned appended left next named index t a e =
      subst (IsUnderWay root (with_page seen v.page slots) new) (stacked stack left turned kids next (sym a ∙ e) t) (more root seen places new v slots (reverse stack) kids way_on fresh_next named index)

  pub read_twice : (slots : List (List ℕ)) (new : BTreeMap PageId ℕ) (left : List Visit) (next : Option Visit) (e : SeenRefusal) → IsUnderWay root (with_page seen v.page slots) new (ahead next left)
      → (u : Visit) × (next ≡ Some u) × Saw (with_page seen v.page slots) u.page × (e ≡ Damaged u.from u.slot) → IsAt (IsBadThen (record { root = root; seen = seen; next = was }) slots) e
  read_twice slots new left next e u t =
      let last : IsUnderWay root (with_page seen v.page slots) new (t.0 ∷ reverse left) = subst (λ o. IsUnderWay root (with_page seen v.page slots) new (ahead o left)) t.1 u in
      at e (bad_next root (with_page seen v.page slots) new t.0 (reverse left) last t.2 e t.3)
    where
      at : (x : SeenRefusal) → IsAt (IsBad shape.kids (with_page seen v.page slots) (first root)) x → IsAt (IsBadThen (record { root = root; seen = seen; next = was }) slots) x
      at (Damaged page slot) b = λ y z. subst (λ (x : Visit). IsBad shape.kids (with_page seen x.page slots) (first root) page slot) (same_Some v y (sym is ∙ z)) b
      at Memory b = tt

  pub read_on : (slots : List (List ℕ)) (new : BTreeMap PageId ℕ) (kids turned appended left : List Visit) (popped next : Option Visit) (now : List Looked) (n m : ℕ)
      → shape.kids v slots ≡ Ok kids → n ≡ length seen → ((q : PageId) → tree.get page_cmp new q ≡ cond (is_eq (page_cmp v.page q)) (Some n) (tree.get page_cmp places q))
      → turned ≡ reverse kids → appended ≡ stack ++ turned → m ≡ length appended → appended ≡ left ++ option_to_list popped → IsSome popped ↔ (0 < m)
      → now ≡ with_page seen v.page slots → next ≡ popped → IfSome next (λ u. ¬ Saw now u.page) → IsWalking root now new left next
  read_on slots new kids turned appended left popped next now n m named long put t a many e some is_now is_next fresh =
      let index : Indexes new (with_page seen v.page slots) = indexed seen v slots places new n w.way.index fresh_next long put in
      let way : IsUnderWay root (with_page seen v.page slots) new (ahead popped left) = read_way slots new kids turned appended left popped named index t a e in
      walking root now new left next
      (subst (λ (s : List Looked). IsUnderWay root s new (ahead next left)) (sym is_now) (subst (λ o. IsUnderWay root (with_page seen v.page slots) new (ahead o left)) (sym is_next) way))
      fresh (λ none. none_left popped m appended left many e some (sym is_next ∙ none))

-- LAWS

pub next_is_own : (s : Scanned) (v : Visit) (cols : List Column) (at : SlotsAt) (owns : PageId → Bool) (rows : Rows) → IsScan s → s.next ≡ Some v → HasRows shape cols at owns (first s.root) rows → Shows s.seen at → owns v.page ≡ true
next_is_own s v cols at owns rows scan is table shows =
    let lacks : Lacks shape.kids s.seen (first s.root) v = subst (IsNextOf s.seen s.root) is scan in
    let here = is_ahead shape.kids s.seen at (first s.root) v table.0 shows table.1.walk lacks in
    (table.1.owned v.page).1 (here.0, here.1, here.2, here.3, ap (λ (w : Visit). w.page) here.4)

pub not_damaged : (s : Scanned) (v : Visit) (slots : List (List ℕ)) (cols : List Column) (at : SlotsAt) (owns : PageId → Bool) (rows : Rows) (e : SeenRefusal) → IsAt (IsBadThen s slots) e → s.next ≡ Some v → HasRows shape cols at owns (first s.root) rows → Shows (with_page s.seen v.page slots) at → IsMemory e
not_damaged s v slots cols at owns rows (Damaged page slot) bad is table shows = never_bad shape.kids (with_page s.seen v.page slots) at (first s.root) table.0 page slot shows table.1.walk (bad v is)
not_damaged s v slots cols at owns rows Memory bad is table shows = tt
