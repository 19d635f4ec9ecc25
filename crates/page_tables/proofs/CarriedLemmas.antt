-- A plan of one table is a plan of the whole database: its claims and edits leave all else as it was.
use Rattle.std.proofs.Common.{Decides, refl, ◌≡◌, ◌≢◌, ℕ, zero, suc, ◌+◌, ◌%◌, ◌<◌, ◌≤◌, ◌==◌, ◌&&◌, ◌||◌, List, [], ◌∷◌, length, map, get_or, ap, sym, ◌∙◌, subst, arith, Bool, true, false, cond, inl, inr, eq-eqb}
use Rattle.std.specs.Prelude.{Some}
use Rattle.std.specs.FinMap as finite
use Rattle.std.specs.FinMap.{get-insert}
use Rattle.std.specs.Cmp.Lexicographic.{slice_cmp, nat_list_cmp_total}
use Rattle.std.specs.List.{AllPairs, Any, AllByRecursion}
use Rattle.std.specs.Ordering.{nat_cmp, eq_by_cmp}
use Rattle.std.specs.Str.{bytes_eq}
use Rattle.std.proofs.lemmas.Bool.{cases_eq, cases_lt, cases_Bool, ne_eqb, eqb-true, and_parts}
use Rattle.std.proofs.lemmas.Bool.Decides.{Decides-eqb}
use Rattle.std.proofs.lemmas.List.{get_or_default}
use Rattle.std.proofs.lemmas.Map.Keys.{IsDistinct-from_sorted}
use Rattle.std.proofs.lemmas.Map.Made.{AllPairs-from_IsDistinct}
use Rattle.std.proofs.lemmas.Map.Text.{is_eq-slice_cmp}
use Rattle.std.proofs.lemmas.Slice.Eq.{bytes_eq-Decides}
use Rattle.page_base.specs.declared.column.Column.{Column}
use Rattle.page_base.specs.declared.numbers.PageId.{PageId}
use Rattle.page_base.specs.Pages.{is_page}
use Rattle.page_fmt.specs.Seen.{SlotsAt}
use Rattle.plain_model.specs.Tables.{Rows, Table, Tables}
use Rattle.sys_cat.specs.declared.desc.TableDesc.{TableDesc}
use Rattle.sys_cat.specs.Lists.{IsDesc, AreDescs}
use Rattle.sys_cat.specs.Rows.{zero_root, table_0}
use Rattle.table_walk.specs.declared.plan.Edit.{Edit}
use Rattle.table_walk.specs.Plans.{place, slots_after, changed, after, also, is_claimed, AreWithin, Carries}
use Rattle.table_walk.specs.Tables.{HasRows}
use Rattle.table_walk.proofs.PlanLemmas.{carries_same}
use Rattle.alloc_pages.specs.Owners.{owner_at}
use Rattle.alloc_pages.specs.Spots.{spot_of}
use Rattle.page_tables.specs.Bases.{AreRowsOf, HasTable, AreStanding, IsBase}
use Rattle.page_tables.specs.Layout.{shape, first}
use Rattle.page_tables.specs.Owners.{is_there, owner, owns, IsAllocPage, IsSpread, IsOwner}
use Rattle.page_tables.specs.Owners.IsOwner.{OfZero, OfTable}
use Rattle.page_tables.specs.Writes.{with_claims, AreClaimable}
use Rattle.page_tables.proofs.BaseLemmas.{rows_same_pages}
use Rattle.page_tables.proofs.OwnerLemmas.{page_cases, not_alloc, pages_kept, owners_given, claim_of, spread_kept, spread_same}

-- DESCRIPTIONS DIFFER

map_get : {A B : Type 0} (f : A → B) (xs : List A) (i : ℕ) (d : A) → get_or (map f xs) i (f d) ≡ f (get_or xs i d)
map_get f [] i d = refl
map_get f (x ∷ xs) zero d = refl
map_get f (x ∷ xs) (suc i) d = map_get f xs i d

pub map_long : {A B : Type 0} (f : A → B) (xs : List A) → length (map f xs) ≡ length xs
map_long f [] = refl
map_long f (x ∷ xs) = ap (λ n. suc n) (map_long f xs)

pub apart_at : {A B : Type 0} (f : A → B) (xs : List A) → AllPairs (λ (x y : B). x ≢ y) (map f xs) → (i j : ℕ) (d : A) → i ≢ j → i < length xs → j < length xs → f (get_or xs i d) ≢ f (get_or xs j d)
apart_at f xs a i j d ne h l e = elim (cases_lt i j) [
  | inl lt ↦ a i j (f d) lt (omega (arith, l, map_long f xs)) (map_get f xs i d ∙ e ∙ sym (map_get f xs j d))
  | inr ge ↦ a j i (f d) (other_way i j ne ge) (omega (arith, h, map_long f xs)) (map_get f xs j d ∙ sym e ∙ sym (map_get f xs i d))
]
  where
    other_way : (i j : ℕ) → i ≢ j → j ≤ i → j < i
    other_way i j ne ge = elim (cases_lt j i) [
      | inl lt ↦ lt
      | inr le ↦ absurd (ne (omega (arith, ge, le)))
    ]

pub names_apart : (ds : List TableDesc) → AreDescs ds → AllPairs (λ (x y : List ℕ). x ≢ y) (map (λ d. d.name) ds)
names_apart ds a = AllPairs-from_IsDistinct decides (map (λ d. d.name) ds) (IsDistinct-from_sorted (slice_cmp nat_cmp) (map (λ d. d.name) ds) a.names)
  where
    decides : (x y : List ℕ) → Decides (eq_by_cmp (slice_cmp nat_cmp) x y) (x ≡ y)
    decides x y = subst (λ b. Decides b (x ≡ y)) (sym (is_eq-slice_cmp x y)) (bytes_eq-Decides x y)

pub numbers_apart : (ds : List TableDesc) → AreDescs ds → AllPairs (λ (x y : ℕ). x ≢ y) (map (λ d. d.number.0) ds)
numbers_apart ds a = AllPairs-from_IsDistinct Decides-eqb (map (λ d. d.number.0) ds) a.numbers

pub each_desc : (ds : List TableDesc) → AllByRecursion IsDesc ds → (k : ℕ) (d : TableDesc) → k < length ds → IsDesc (get_or ds k d)
each_desc [] a k d h = absurd (omega arith)
each_desc (e ∷ ds) a zero d h = a.0
each_desc (e ∷ ds) a (suc k) d h = each_desc ds a.1 k d (omega arith)

-- EDITS

module _ (claimed : ℕ → PageId) (n : ℕ) (mine : PageId → Bool) where
  -- a page that no edit may be on stays
  pub off_edits : (at : SlotsAt) (es : List Edit) (q : PageId) → AreWithin claimed n mine es → also mine claimed n q ≡ false → after claimed at es q ≡ at q
  off_edits at [] q within off = refl
  off_edits at (e ∷ es) q within off =
      let other : is_page (place claimed e.spot) q ≡ false = elim (page_cases (place claimed e.spot) q) [
        | inl same ↦ absurd (let w : true ≡ false = sym within.0 ∙ ap (also mine claimed n) same ∙ off in cc)
        | inr f ↦ f
      ] in
      off_edits (changed claimed at e) es q within.1 off ∙ ap (λ b. cond b (slots_after claimed at e) (at q)) other

-- A PLAN

module _ (counts : List ℕ) (at : SlotsAt) (spread : (a : PageId) → IsAllocPage counts a → IsSpread counts at a) (d : TableDesc) (small : d.number.0 + 1 < 4294967295) (claimed : ℕ → PageId) (n : ℕ) (c : AreClaimable counts at claimed n) (edits : List Edit) (rows : Rows)
    (plan : Carries shape d.cols (first d.root) claimed n at (owns counts at d.number.0) edits rows) where
  -- a page of the table, or one that is claimed, is no allocation page
  pub mine_off : (q : PageId) → also (owns counts at d.number.0) claimed n q ≡ true → q.page % 1280 ≢ 0
  mine_off q m = elim (cases_Bool (is_claimed claimed n q)) [
    | inl t ↦
        let i = claim_of counts d.number.0 claimed small n q t in
        not_alloc counts at q spread (ap (is_there counts) (sym i.2) ∙ c.there i.0 i.1) (λ e. absurd (let f : owner at q ≡ 0 = ap (owner at) (sym i.2) ∙ c.free i.0 i.1 in omega (arith, e, f)))
    | inr f ↦
        let own : owns counts at d.number.0 q ≡ true = or_first (owns counts at d.number.0 q) (is_claimed claimed n q) f m in
        let parts = and_parts (is_there counts q) (owner at q == d.number.0 + 1) own in
        not_alloc counts at q spread parts.0 (λ e. absurd (omega (arith, e, small, eqb-true (owner at q) (d.number.0 + 1) parts.1)))
  ]
    where
      or_first : (x y : Bool) → y ≡ false → (x || y) ≡ true → x ≡ true
      or_first true y e h = refl
      or_first false y e h = sym e ∙ h

  alloc_stays : (a : PageId) → a.page % 1280 ≡ 0 → also (owns counts at d.number.0) claimed n a ≡ false
  alloc_stays a every = elim (cases_Bool (also (owns counts at d.number.0) claimed n a)) [
    | inl t ↦ absurd (mine_off a t every)
    | inr f ↦ f
  ]

  every_spot : (q : PageId) → (spot_of q).page.page % 1280 ≡ 0
  every_spot q = omega arith

  -- whose each page is
  pub owner_after : (q : PageId) → owner (after claimed (with_claims d.number.0 claimed n at) edits) q ≡ cond (is_claimed claimed n q) (d.number.0 + 1) (owner at q)
  owner_after q =
      ap (λ s. owner_at s (spot_of q).slot) (off_edits claimed n (owns counts at d.number.0) (with_claims d.number.0 claimed n at) edits (spot_of q).page plan.within (alloc_stays (spot_of q).page (every_spot q)))
      ∙ owners_given counts d.number.0 claimed small n at q c.differ

  -- and a page that isn't of the table, and doesn't tell of others, is as it was
  page_after : (q : PageId) → q.page % 1280 ≢ 0 → also (owns counts at d.number.0) claimed n q ≡ false → after claimed (with_claims d.number.0 claimed n at) edits q ≡ at q
  page_after q ne off = off_edits claimed n (owns counts at d.number.0) (with_claims d.number.0 claimed n at) edits q plan.within off ∙ pages_kept counts d.number.0 claimed small n at q ne

  -- THE TABLE ITSELF

  claimed_there : (q : PageId) → is_claimed claimed n q ≡ true → (is_there counts q ≡ true) × (owner at q ≡ 0)
  claimed_there q t = let i = claim_of counts d.number.0 claimed small n q t in (ap (is_there counts) (sym i.2) ∙ c.there i.0 i.1, ap (owner at) (sym i.2) ∙ c.free i.0 i.1)

  own_owned : owns counts (after claimed (with_claims d.number.0 claimed n at) edits) d.number.0 ≡ also (owns counts at d.number.0) claimed n
  own_owned = λ i q. page q i
    where
      page : (q : PageId) → owns counts (after claimed (with_claims d.number.0 claimed n at) edits) d.number.0 q ≡ also (owns counts at d.number.0) claimed n q
      page q = elim (cases_Bool (is_claimed claimed n q)) [
        | inl t ↦
            (λ i. (claimed_there q t).0 i && (owner_after q ∙ ap (λ x. cond x (d.number.0 + 1) (owner at q)) t) i == d.number.0 + 1) ∙ ne_self (d.number.0 + 1) ∙ sym (ap (λ x. owns counts at d.number.0 q || x) t ∙ or_true (owns counts at d.number.0 q))
        | inr f ↦
            ap (λ o. is_there counts q && o == d.number.0 + 1) (owner_after q ∙ ap (λ x. cond x (d.number.0 + 1) (owner at q)) f) ∙ sym (ap (λ x. owns counts at d.number.0 q || x) f ∙ or_false (owns counts at d.number.0 q))
      ]
        where
          ne_self : (m : ℕ) → (true && m == m) ≡ true
          ne_self m = eq-eqb m m refl

          or_true : (x : Bool) → (x || true) ≡ true
          or_true true = refl
          or_true false = refl

          or_false : (x : Bool) → (x || false) ≡ x
          or_false true = refl
          or_false false = refl

  pub own_after : AreRowsOf counts (after claimed (with_claims d.number.0 claimed n at) edits) d.cols d.number.0 d.root rows
  own_after =
      let moved : Carries shape d.cols (first d.root) claimed n (with_claims d.number.0 claimed n at) (owns counts at d.number.0) edits rows =
      carries_same shape d.cols (first d.root) claimed n at (with_claims d.number.0 claimed n at) (owns counts at d.number.0) edits rows (λ q m. sym (pages_kept counts d.number.0 claimed small n at q (mine_off q m))) plan in
      subst (λ o. HasRows shape d.cols (after claimed (with_claims d.number.0 claimed n at) edits) o (first d.root) rows) (sym own_owned) moved.table

  -- ANOTHER TABLE

  other_owns : (m : ℕ) → m ≢ d.number.0 → owns counts (after claimed (with_claims d.number.0 claimed n at) edits) m ≡ owns counts at m
  other_owns m ne = λ i q. page q i
    where
      page : (q : PageId) → owns counts (after claimed (with_claims d.number.0 claimed n at) edits) m q ≡ owns counts at m q
      page q = elim (cases_Bool (is_claimed claimed n q)) [
        | inl t ↦
            ap (λ o. is_there counts q && o == m + 1) (owner_after q ∙ ap (λ x. cond x (d.number.0 + 1) (owner at q)) t) ∙ ap (λ x. is_there counts q && x) (ne_eqb (d.number.0 + 1) (m + 1) (λ e. ne (omega (arith, e))))
            ∙ sym (ap (λ o. is_there counts q && o == m + 1) (claimed_there q t).1 ∙ ap (λ x. is_there counts q && x) (ne_eqb 0 (m + 1) (λ e. absurd (omega (arith, e)))))
        | inr f ↦ ap (λ o. is_there counts q && o == m + 1) (owner_after q ∙ ap (λ x. cond x (d.number.0 + 1) (owner at q)) f)
      ]

  other_page : (m : ℕ) → m ≢ d.number.0 → m + 1 < 4294967295 → (q : PageId) → owns counts at m q ≡ true → at q ≡ after claimed (with_claims d.number.0 claimed n at) edits q
  other_page m ne few q own =
      let parts = and_parts (is_there counts q) (owner at q == m + 1) own in
      let whose : owner at q ≡ m + 1 = eqb-true (owner at q) (m + 1) parts.1 in
      let off : is_claimed claimed n q ≡ false = elim (cases_Bool (is_claimed claimed n q)) [
        | inl t ↦ absurd (omega (arith, whose, (claimed_there q t).1))
        | inr f ↦ f
      ] in
      let else_owned : owns counts at d.number.0 q ≡ false =
      ap (λ x. x && owner at q == d.number.0 + 1) parts.0 ∙ ap (λ o. o == d.number.0 + 1) whose ∙ ne_eqb (m + 1) (d.number.0 + 1) (λ e. ne (omega (arith, e))) in
      sym (page_after q (not_alloc counts at q spread parts.0 (λ e. absurd (omega (arith, e, whose, few)))) ((λ i. else_owned i || off i)))

  pub others_after : (cols : List Column) (m : ℕ) (root : PageId) (r : Rows) → m ≢ d.number.0 → m + 1 < 4294967295 → AreRowsOf counts at cols m root r → AreRowsOf counts (after claimed (with_claims d.number.0 claimed n at) edits) cols m root r
  others_after cols m root r ne few t = rows_same_pages counts at (after claimed (with_claims d.number.0 claimed n at) edits) cols m root r (other_owns m ne) (other_page m ne few) t

  pub spread_after : (a : PageId) → IsAllocPage counts a → IsSpread counts (after claimed (with_claims d.number.0 claimed n at) edits) a
  spread_after a alloc =
      spread_same counts (with_claims d.number.0 claimed n at) (after claimed (with_claims d.number.0 claimed n at) edits) a (sym (off_edits claimed n (owns counts at d.number.0) (with_claims d.number.0 claimed n at) edits a plan.within (alloc_stays a alloc.every)))
      (spread_kept counts d.number.0 claimed small n at a c.there (λ i h. not_alloc counts at (claimed i) spread (c.there i h) (λ e. absurd (let f : owner at (claimed i) ≡ 0 = c.free i h in omega (arith, e, f)))) (spread a alloc))

  -- a page that nobody owns then was nobody's, and is blank as it was
  pub blank_after : ((p : PageId) → is_there counts p ≡ true → owner at p ≡ 0 → at p ≡ []) → (p : PageId) → is_there counts p ≡ true → owner (after claimed (with_claims d.number.0 claimed n at) edits) p ≡ 0 → after claimed (with_claims d.number.0 claimed n at) edits p ≡ []
  blank_after blank p in_file free = elim (cases_Bool (is_claimed claimed n p)) [
    | inl t ↦ absurd (let whose : owner (after claimed (with_claims d.number.0 claimed n at) edits) p ≡ d.number.0 + 1 = owner_after p ∙ ap (λ x. cond x (d.number.0 + 1) (owner at p)) t in omega (arith, whose, free))
    | inr f ↦
        let was : owner at p ≡ 0 = sym (owner_after p ∙ ap (λ x. cond x (d.number.0 + 1) (owner at p)) f) ∙ free in
        let else_owned : owns counts at d.number.0 p ≡ false = ap (λ x. x && owner at p == d.number.0 + 1) in_file ∙ ap (λ o. o == d.number.0 + 1) was ∙ ne_eqb 0 (d.number.0 + 1) (λ e. absurd (omega (arith, e))) in
        page_after p (not_alloc counts at p spread in_file (λ e. absurd (omega (arith, e, was)))) ((λ i. else_owned i || f i)) ∙ blank p in_file was
  ]

-- THE DATABASE

module _ (counts : List ℕ) (at : SlotsAt) (ds : List TableDesc) (tables : Tables) (b : IsBase counts at ds tables) (k : ℕ) (d : TableDesc) (there : k < length ds) (is : get_or ds k d ≡ d) (claimed : ℕ → PageId) (n : ℕ) (c : AreClaimable counts at claimed n) (edits : List Edit) (rows : Rows)
    (plan : Carries shape d.cols (first d.root) claimed n at (owns counts at d.number.0) edits rows) where
  desc : IsDesc d
  desc = subst IsDesc is (each_desc ds b.descs.descs.each k d there)

  small : d.number.0 + 1 < 4294967295
  small = omega (arith, desc.head.number)

  owner_last : (q : PageId) → owner (after claimed (with_claims d.number.0 claimed n at) edits) q ≡ cond (is_claimed claimed n q) (d.number.0 + 1) (owner at q)
  owner_last = owner_after counts at b.spread d small claimed n c edits rows plan

  own_rows : AreRowsOf counts (after claimed (with_claims d.number.0 claimed n at) edits) d.cols d.number.0 d.root rows
  own_rows = own_after counts at b.spread d small claimed n c edits rows plan

  other_rows : (cols : List Column) (m : ℕ) (root : PageId) (r : Rows) → m ≢ d.number.0 → m + 1 < 4294967295 → AreRowsOf counts at cols m root r → AreRowsOf counts (after claimed (with_claims d.number.0 claimed n at) edits) cols m root r
  other_rows = others_after counts at b.spread d small claimed n c edits rows plan

  table_now : Table
  table_now = record { cols = d.cols; rows = rows }

  put_name : (name : List ℕ) → finite.get (finite.insert tables d.name (record { cols = d.cols; rows = rows })) name ≡ cond (bytes_eq name d.name) (Some (record { cols = d.cols; rows = rows })) (finite.get tables name)
  put_name name = get-insert nat_list_cmp_total tables d.name (record { cols = d.cols; rows = rows }) name ∙ ap (λ x. cond x (Some (record { cols = d.cols; rows = rows })) (finite.get tables name)) (is_eq-slice_cmp name d.name)

  each_last : (j : ℕ) (e : TableDesc) → j < length ds → HasTable counts (after claimed (with_claims d.number.0 claimed n at) edits) (finite.insert tables d.name (record { cols = d.cols; rows = rows })) (get_or ds j e)
  each_last j e lt = elim (cases_eq j k) [
    | inl same ↦
        subst (HasTable counts (after claimed (with_claims d.number.0 claimed n at) edits) (finite.insert tables d.name (record { cols = d.cols; rows = rows }))) (sym (ap (λ i. get_or ds i e) same ∙ get_or_default ds k e d there ∙ is))
        (record { rows = rows; pages = own_rows; is = put_name d.name ∙ ap (λ x. cond x (Some (record { cols = d.cols; rows = rows })) (finite.get tables d.name)) ((bytes_eq-Decides d.name d.name).1 refl) })
    | inr ne ↦
        let here : get_or ds k e ≡ d = get_or_default ds k e d there ∙ is in
        let old : HasTable counts at tables (get_or ds j e) = b.each j e lt in
        let few : IsDesc (get_or ds j e) = each_desc ds b.descs.descs.each j e lt in
        let number_ne : (get_or ds j e).number.0 ≢ d.number.0 = λ f. apart_at (λ (x : TableDesc). x.number.0) ds (numbers_apart ds b.descs.descs) j k e ne lt there (f ∙ sym (ap (λ (x : TableDesc). x.number.0) here)) in
        let name_ne : bytes_eq (get_or ds j e).name d.name ≡ false = elim (cases_Bool (bytes_eq (get_or ds j e).name d.name)) [
          | inl t ↦ absurd (apart_at (λ (x : TableDesc). x.name) ds (names_apart ds b.descs.descs) j k e ne lt there ((bytes_eq-Decides (get_or ds j e).name d.name).0 t ∙ sym (ap (λ (x : TableDesc). x.name) here)))
          | inr f ↦ f
        ] in
        record {
          rows = old.rows;
          pages = other_rows (get_or ds j e).cols (get_or ds j e).number.0 (get_or ds j e).root old.rows number_ne (omega (arith, few.head.number)) old.pages;
          is = put_name (get_or ds j e).name ∙ ap (λ x. cond x (Some (record { cols = d.cols; rows = rows })) (finite.get tables (get_or ds j e).name)) name_ne ∙ old.is;
        }
  ]

  only_last : (name : List ℕ) (t : Table) → finite.get (finite.insert tables d.name (record { cols = d.cols; rows = rows })) name ≡ Some t → Any (λ x. x.name ≡ name) ds
  only_last name t got = elim (cases_Bool (bytes_eq name d.name)) [
    | inl same ↦ (k, d, there, is, sym ((bytes_eq-Decides name d.name).0 same))
    | inr other ↦ b.only name t (sym (ap (λ x. cond x (Some (record { cols = d.cols; rows = rows })) (finite.get tables name)) other) ∙ sym (put_name name) ∙ got)
  ]

  owners_last : (p : PageId) → is_there counts p ≡ true → IsOwner ds (owner (after claimed (with_claims d.number.0 claimed n at) edits) p)
  owners_last p in_file = elim (cases_Bool (is_claimed claimed n p)) [
    | inl t ↦ subst (IsOwner ds) (sym (owner_last p ∙ ap (λ x. cond x (d.number.0 + 1) (owner at p)) t)) (OfTable d (k, d, there, is, refl))
    | inr f ↦ subst (IsOwner ds) (sym (owner_last p ∙ ap (λ x. cond x (d.number.0 + 1) (owner at p)) f)) (b.owners p in_file)
  ]

  pub carried : IsBase counts (after claimed (with_claims d.number.0 claimed n at) edits) ds (finite.insert tables d.name (record { cols = d.cols; rows = rows }))
  carried = record {
    spread = spread_after counts at b.spread d small claimed n c edits rows plan;
    zero_rows = b.zero_rows;
    zero_pages = other_rows table_0 0 zero_root b.zero_rows (λ e. absurd (let low : 1 ≤ d.number.0 = desc.head.some in omega (arith, e, low))) (omega arith) b.zero_pages;
    descs = b.descs;
    each = each_last;
    only = only_last;
    owners = owners_last;
    blank = blank_after counts at b.spread d small claimed n c edits rows plan b.blank;
  }

-- A PLAN OF TABLE 0

abbrev pub zero_desc : TableDesc
zero_desc = record { name = []; number = record { 0 = 0 }; root = zero_root; cols = table_0 }

module _ (counts : List ℕ) (at : SlotsAt) (ds : List TableDesc) (tables : Tables) (b : IsBase counts at ds tables) (claimed : ℕ → PageId) (n : ℕ) (c : AreClaimable counts at claimed n) (edits : List Edit) (rows : Rows)
    (plan : Carries shape table_0 (first zero_root) claimed n at (owns counts at 0) edits rows) where
  zero_small : 0 + 1 < 4294967295
  zero_small = omega arith

  each_kept : (j : ℕ) (e : TableDesc) → j < length ds → HasTable counts (after claimed (with_claims 0 claimed n at) edits) tables (get_or ds j e)
  each_kept j e lt =
      let old : HasTable counts at tables (get_or ds j e) = b.each j e lt in
      let head = (each_desc ds b.descs.descs.each j e lt).head in
      record {
        rows = old.rows;
        pages = others_after counts at b.spread zero_desc zero_small claimed n c edits rows plan (get_or ds j e).cols (get_or ds j e).number.0 (get_or ds j e).root old.rows (λ f. absurd (omega (arith, f, head.some))) (omega (arith, head.number)) old.pages;
        is = old.is;
      }

  owners_kept : (p : PageId) → is_there counts p ≡ true → IsOwner ds (owner (after claimed (with_claims 0 claimed n at) edits) p)
  owners_kept p in_file =
      let whose = owner_after counts at b.spread zero_desc zero_small claimed n c edits rows plan p in
      elim (cases_Bool (is_claimed claimed n p)) [
        | inl t ↦ subst (IsOwner ds) (sym (whose ∙ ap (λ x. cond x 1 (owner at p)) t)) OfZero
        | inr f ↦ subst (IsOwner ds) (sym (whose ∙ ap (λ x. cond x 1 (owner at p)) f)) (b.owners p in_file)
      ]

  pub carried_zero : AreStanding counts (after claimed (with_claims 0 claimed n at) edits) rows ds tables
  carried_zero = record {
    spread = spread_after counts at b.spread zero_desc zero_small claimed n c edits rows plan;
    zero_pages = own_after counts at b.spread zero_desc zero_small claimed n c edits rows plan;
    each = each_kept;
    only = b.only;
    owners = owners_kept;
    blank = blank_after counts at b.spread zero_desc zero_small claimed n c edits rows plan b.blank;
  }
