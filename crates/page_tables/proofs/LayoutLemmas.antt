-- What the chosen layout gives: its rows may give way to others of their keys, and a plan of table 0 writes rows on pages of rows.
use Rattle.std.proofs.Common.{refl, ◌≡◌, ℕ, zero, suc, ◌<◌, ◌≤◌, ◌==◌, ◌||◌, List, [], ◌∷◌, ◌++◌, length, map, get_or, ap, sym, ◌∙◌, subst, arith, Bool, true, false, cond, inl, inr, eq-eqb, Result, Ok}
use Rattle.std.specs.Prelude.{◌⊎◌}
use Rattle.std.specs.List.{Any}
use Rattle.std.proofs.lemmas.Bool.{cases_lt}
use Rattle.page_base.specs.declared.numbers.PageId.{PageId}
use Rattle.page_base.specs.declared.value.Value.{Value}
use Rattle.page_base.specs.Pages.{is_page}
use Rattle.page_base.proofs.PagesLemmas.{is_page-same, is_page-true}
use Rattle.page_fmt.specs.Seen.{SlotsAt, Looked, Shows}
use Rattle.plain_model.specs.Tables.{Tables}
use Rattle.sys_cat.specs.declared.desc.TableDesc.{TableDesc}
use Rattle.sys_cat.specs.Rows.{table_0, zero_root}
use Rattle.table_walk.specs.declared.plan.Edit.{Edit}
use Rattle.table_walk.specs.declared.visit.Visit.{Visit}
use Rattle.table_walk.specs.Filling.{IsLeafOf, KeepsByKeys}
use Rattle.table_walk.specs.Plans.{place, after, AreFree, IsOnLeaf}
use Rattle.table_walk.specs.Tables.{is_leaf}
use Rattle.table_walk.specs.Walk.{IsWalk, Reaches}
use Rattle.table_walk.proofs.WalkLemmas.{walks-one}
use Rattle.table_heap.specs.Growth.{count_of}
use Rattle.table_heap.specs.Heap.{root_kids}
use Rattle.table_heap.specs.Planning.{AreClaimed}
use Rattle.table_heap.specs.Shape.{leaves_in}
use Rattle.page_tables.specs.Bases.{IsBase}
use Rattle.page_tables.specs.Layout.{shape, first, Promises}
use Rattle.page_tables.specs.Owners.{owns}
use Rattle.page_tables.specs.Rooting.{IsOnRows}
use Rattle.page_tables.specs.Writes.{AreClaimable}
use Rattle.page_tables.proofs.BaseLemmas.{claimable_free}
use Rattle.page_tables.proofs.FreeLemmas.{is_among}

pub by_keys : KeepsByKeys shape
by_keys = record {
  leaves = λ v slots leaf. ap (λ b. cond {A = Result (List Visit) ℕ} b (Ok []) (root_kids v.page slots)) leaf;
  keeps = λ cols start at done p i row other walk leaf was like kept. refl;
}

-- ---- leaves of a walk

leaf_among : (vs : List Visit) (p : PageId) (k : ℕ) (v : Visit) → k < length vs → (get_or vs k v).page ≡ p → is_leaf (get_or vs k v) ≡ true → is_among (leaves_in vs) p ≡ true
leaf_among [] p k v lt here leaf = absurd (omega arith)
leaf_among (u ∷ vs) p zero v lt here leaf =
    ap (λ b. is_among (cond b (u.page ∷ leaves_in vs) (leaves_in vs)) p) leaf ∙ ap (λ b. b || is_among (leaves_in vs) p) (ap (is_page u.page) (sym here) ∙ is_page-same u.page)
leaf_among (u ∷ vs) p (suc k) v lt here leaf = by (is_leaf u) (leaf_among vs p k v (omega arith) here leaf)
  where
    by : (b : Bool) → is_among (leaves_in vs) p ≡ true → is_among (cond b (u.page ∷ leaves_in vs) (leaves_in vs)) p ≡ true
    by true later = right (is_page u.page p) (is_among (leaves_in vs) p) later
      where
        right : (x y : Bool) → y ≡ true → (x || y) ≡ true
        right true y t = refl
        right false y t = t
    by false later = later

among_leaf : (vs : List Visit) (p : PageId) → is_among (leaves_in vs) p ≡ true → IsLeafOf vs p
among_leaf [] p t = absurd (let w : false ≡ true = t in cc)
among_leaf (u ∷ vs) p t = by (is_leaf u) refl t (among_leaf vs p)
  where
    next : IsLeafOf vs p → IsLeafOf (u ∷ vs) p
    next a = (suc a.0, a.1, omega (arith, a.2), a.3, a.4)

    by : (b : Bool) → is_leaf u ≡ b → is_among (cond b (u.page ∷ leaves_in vs) (leaves_in vs)) p ≡ true → (is_among (leaves_in vs) p ≡ true → IsLeafOf vs p) → IsLeafOf (u ∷ vs) p
    by true leaf is later = chosen (is_page u.page p) refl is
      where
        chosen : (c : Bool) → is_page u.page p ≡ c → (c || is_among (leaves_in vs) p) ≡ true → IsLeafOf (u ∷ vs) p
        chosen true same both = (0, u, omega arith, refl, (is_page-true u.page p same, leaf))
        chosen false other both = next (later both)
    by false leaf is later = next (later is)

-- ---- claims of new leaves

among_both : (xs ys : List PageId) (p : PageId) → is_among (xs ++ ys) p ≡ true → (is_among xs p ≡ true) ⊎ (is_among ys p ≡ true)
among_both [] ys p t = inr t
among_both (x ∷ xs) ys p t = by (is_page x p) refl (among_both xs ys p)
  where
    by : (b : Bool) → is_page x p ≡ b → (is_among (xs ++ ys) p ≡ true → (is_among xs p ≡ true) ⊎ (is_among ys p ≡ true)) → ((is_page x p || is_among xs p) ≡ true) ⊎ (is_among ys p ≡ true)
    by true is later = inl (ap (λ b. b || is_among xs p) is)
    by false is later = elim (later (sym (ap (λ b. b || is_among (xs ++ ys) p) is) ∙ t)) [
      | inl a ↦ inl (ap (λ b. b || is_among xs p) is ∙ a)
      | inr a ↦ inr a
    ]

-- a page of claimed ones is claimed
claim_among : (claimed : ℕ → PageId) (is js : List ℕ) (p : PageId) → is_among (map claimed is) p ≡ true → (i : ℕ) × (claimed i ≡ p) × (1 ≤ count_of i (is ++ js))
claim_among claimed [] js p t = absurd (let w : false ≡ true = t in cc)
claim_among claimed (i ∷ is) js p t = by (is_page (claimed i) p) refl (claim_among claimed is js p)
  where
    once : cond {A = ℕ} (i == i) 1 0 ≡ 1
    once = ap (λ b. cond {A = ℕ} b 1 0) (eq-eqb i i refl)

    by : (b : Bool) → is_page (claimed i) p ≡ b → (is_among (map claimed is) p ≡ true → (k : ℕ) × (claimed k ≡ p) × (1 ≤ count_of k (is ++ js))) → (k : ℕ) × (claimed k ≡ p) × (1 ≤ count_of k ((i ∷ is) ++ js))
    by true same later = (i, is_page-true (claimed i) p same, omega (arith, once))
    by false other later = let a = later (sym (ap (λ b. b || is_among (map claimed is) p) other) ∙ t) in (a.0, a.1, omega (arith, a.2))

-- ---- what a plan promises of the pages that it writes rows on

module _ (counts : List ℕ) (at : SlotsAt) (ds : List TableDesc) (tables : Tables) (seen : List Looked) (cut put : List (List Value)) (claimed : ℕ → PageId) (n : ℕ) (edits : List Edit) (e : Edit) (b : IsBase counts at ds tables) (shows : Shows seen at) (claims : AreClaimable counts at claimed n)
    (promises : Promises table_0 seen zero_root cut put n edits) (some : Any (λ (f : Edit). f ≡ e) edits) (row : e.of_row ≡ true) where
  free : AreFree claimed n at (owns counts at 0)
  free = claimable_free counts at ds tables claimed n 0 b claims

  leaf : (done : List Visit) → IsWalk shape.kids (after claimed at edits) (first zero_root) done [] → IsLeafOf done (place claimed e.spot)
  leaf done w = subst (λ (f : Edit). IsOnLeaf claimed done f) (some.3 ∙ some.4) (promises.rows at (owns counts at 0) b.zero_rows claimed done b.zero_pages shows free w some.0 some.1 some.2) row

  pub on_rows : IsOnRows claimed at edits (place claimed e.spot)
  on_rows = record {
    once = promises.once at (owns counts at 0) b.zero_rows claimed b.zero_pages shows free;
    was = was;
    is = leaf;
  }
    where
      was : (done : List Visit) → IsWalk shape.kids at (first zero_root) done [] → Reaches done (place claimed e.spot) → IsLeafOf done (place claimed e.spot)
      was done w reached =
          let plan = promises.carries at (owns counts at 0) b.zero_rows claimed b.zero_pages shows free in
          let c : AreClaimed claimed n done plan.table.0 = promises.claims at (owns counts at 0) b.zero_rows claimed done plan.table.0 b.zero_pages shows free w plan.table.1.walk in
          let here : IsLeafOf plan.table.0 (place claimed e.spot) = leaf plan.table.0 plan.table.1.walk in
          let among : is_among (leaves_in done ++ map claimed c.leaves) (place claimed e.spot) ≡ true =
          sym (ap (λ ps. is_among ps (place claimed e.spot)) c.leaves_are) ∙ leaf_among plan.table.0 (place claimed e.spot) here.0 here.1 here.2 (ap (λ (v : Visit). v.page) here.3 ∙ here.4.0) (ap is_leaf here.3 ∙ here.4.1) in
          elim (among_both (leaves_in done) (map claimed c.leaves) (place claimed e.spot) among) [
            | inl t ↦ among_leaf done (place claimed e.spot) t
            | inr t ↦
                let i = claim_among claimed c.leaves c.roots (place claimed e.spot) t in
                let below : i.0 < n = elim (cases_lt i.0 n) [
                  | inl lt ↦ lt
                  | inr ge ↦ absurd (omega (arith, i.2, c.numbered.below i.0 ge))
                ] in
                let same : b.zero_pages.0 ≡ done = walks-one shape.kids at (first zero_root ∷ []) b.zero_pages.0 done b.zero_pages.1.walk.walks w.walks in
                let own : owns counts at 0 (place claimed e.spot) ≡ true = (b.zero_pages.1.owned (place claimed e.spot)).1 (subst (λ vs. Reaches vs (place claimed e.spot)) (sym same) reached) in
                absurd (let w : true ≡ false = sym own ∙ ap (owns counts at 0) (sym i.1) ∙ free.unowned i.0 below in cc)
          ]
