-- Pages that are emptied and given back: these are blank and free, and nothing else changes.
use Rattle.std.proofs.Common.{refl, ◌≡◌, ◌≢◌, ℕ, zero, suc, ◌%◌, ◌<◌, ◌||◌, ◌&&◌, ◌==◌, List, [], ◌∷◌, length, map, get_or, ap, sym, ◌∙◌, subst, arith, Bool, true, false, cond, inl, inr}
use Rattle.std.specs.List.{Any, AllPairs}
use Rattle.std.proofs.lemmas.Bool.{cases_Bool}
use Rattle.page_base.specs.declared.numbers.PageId.{PageId}
use Rattle.page_base.specs.Pages.{is_page, set_at}
use Rattle.page_base.specs.Slots.{Slots}
use Rattle.page_base.proofs.PagesLemmas.{is_page-same, is_page-true}
use Rattle.page_fmt.specs.Seen.{SlotsAt}
use Rattle.alloc_pages.specs.Owners.{owner_bytes, page_owner}
use Rattle.alloc_pages.specs.Spots.{spot_of}
use Rattle.alloc_pages.proofs.OwnerLemmas.{page_owner-same, page_owner-other}
use Rattle.table_walk.specs.declared.plan.Edit.{Edit}
use Rattle.table_walk.specs.declared.plan.Spot.TheVariants.{Old}
use Rattle.table_walk.specs.Differences.{MakesPage}
use Rattle.table_walk.specs.Plans.{after, Go, AreWithin}
use Rattle.table_heap.proofs.GrowEdits.{Turns, turns_plain, go_page, after_page, within_page, go_join, after_join, within_join}
use Rattle.page_tables.specs.Dropping.{Empty, release}
use Rattle.page_tables.specs.Mine.{written, MayWriteAll, AreSpread}
use Rattle.page_tables.specs.Owners.{is_there, IsSpread}
use Rattle.page_tables.specs.Sheets.{sheets}
use Rattle.page_tables.specs.Writes.{done}
use Rattle.page_tables.proofs.GoLemmas.{owner_may}
use Rattle.page_tables.proofs.MineLemmas.{every_spot}
use Rattle.page_tables.proofs.OwnerLemmas.{page_cases, spread_given}
use Rattle.page_tables.proofs.SheetLemmas.{sheets_edited}
use Rattle.page_tables.proofs.WriteLemmas.{few_slots}

-- ---- pages of a list

abbrev pub is_among : List PageId → PageId → Bool
is_among [] q = false
is_among (p ∷ ps) q = is_page p q || is_among ps q

or_right : (a b : Bool) → b ≡ true → (a || b) ≡ true
or_right true b t = refl
or_right false b t = t

or_left : (a b : Bool) → a ≡ true → (a || b) ≡ true
or_left true b t = refl
or_left false b t = let w : false ≡ true = t in cc

pub any_among : (ps : List PageId) (q : PageId) → Any (λ (p : PageId). p ≡ q) ps → is_among ps q ≡ true
any_among ps q a = at ps a.0 a.1 a.2 (a.3 ∙ a.4)
  where
    at : (ps : List PageId) (k : ℕ) (d : PageId) → k < length ps → get_or ps k d ≡ q → is_among ps q ≡ true
    at [] k d lt is = absurd (omega arith)
    at (p ∷ ps) zero d lt is = or_left (is_page p q) (is_among ps q) (ap (is_page p) (sym is) ∙ is_page-same p)
    at (p ∷ ps) (suc k) d lt is = or_right (is_page p q) (is_among ps q) (at ps k d (omega arith) is)

pub among_any : (ps : List PageId) (q : PageId) → is_among ps q ≡ true → Any (λ (p : PageId). p ≡ q) ps
among_any [] q t = absurd (let w : false ≡ true = t in cc)
among_any (p ∷ ps) q t = by (is_page p q) refl (among_any ps q)
  where
    by : (b : Bool) → is_page p q ≡ b → (is_among ps q ≡ true → Any (λ (r : PageId). r ≡ q) ps) → Any (λ (r : PageId). r ≡ q) (p ∷ ps)
    by true is later = (0, p, omega arith, refl, is_page-true p q is)
    by false is later = let a = later (sym (ap (λ b. b || is_among ps q) is) ∙ t) in (suc a.0, a.1, omega (arith, a.2), a.3, a.4)

-- none stands twice
abbrev pub AreOnce : List PageId → Type 0
AreOnce [] = Unit {0}
AreOnce (p ∷ ps) = (is_among ps p ≡ false) × AreOnce ps

pub once_of : (ps : List PageId) → AllPairs (λ (p q : PageId). p ≢ q) ps → AreOnce ps
once_of [] a = tt
once_of (p ∷ ps) a = (
  elim (cases_Bool (is_among ps p)) [
    | inl t ↦ let x = among_any ps p t in absurd (a 0 (suc x.0) x.1 (omega arith) (omega (arith, x.2)) (sym (x.3 ∙ x.4)))
    | inr f ↦ f
  ],
  once_of ps (λ i j d lt h. a (suc i) (suc j) d (omega arith) (omega arith)),
)

-- of a list where none stands twice the first page is no later one
first_apart : (p : PageId) (ps : List PageId) (q : PageId) → is_among ps p ≡ false → is_among ps q ≡ true → is_page p q ≡ false
first_apart p ps q once t = elim (cases_Bool (is_page p q)) [
  | inl same ↦ absurd (let w : true ≡ false = sym t ∙ ap (is_among ps) (sym (is_page-true p q same)) ∙ once in cc)
  | inr f ↦ f
]

-- ---- edits that empty pages

pub empty_same : (at other : SlotsAt) (ps : List PageId) (es : List Edit) → ((q : PageId) → is_among ps q ≡ true → at q ≡ other q) → Empty at ps es → Empty other ps es
empty_same at other [] es same e = e
empty_same at other (p ∷ ps) es same e = (
  e.0,
  e.1,
  e.2,
  subst (λ s. MakesPage (Old p) s [] e.0) (same p (or_left (is_page p p) (is_among ps p) (is_page-same p))) e.3,
  empty_same at other ps e.1 (λ q t. same q (or_right (is_page p q) (is_among ps q) t)) e.4,
)

module _ (claimed : ℕ → PageId) where
  turns : (at : SlotsAt) (p : PageId) (es : List Edit) → MakesPage (Old p) (at p) [] es → Turns claimed p (at p) [] es
  turns at p es m = turns_plain claimed (Old p) (at p) [] es m

  one_empty : (at : SlotsAt) (p : PageId) (es : List Edit) → MakesPage (Old p) (at p) [] es → after claimed at es ≡ set_at at p []
  one_empty at p es m = after_page claimed at p (at p) [] es (turns at p es m) refl

  later_empty : (at : SlotsAt) (p : PageId) (ps : List PageId) (es fs : List Edit) → is_among ps p ≡ false → MakesPage (Old p) (at p) [] es → Empty at ps fs → Empty (after claimed at es) ps fs
  later_empty at p ps es fs once m e = empty_same at (after claimed at es) ps fs (λ q t. sym ((λ i. one_empty at p es m i q) ∙ ap (λ b. cond b [] (at q)) (first_apart p ps q once t))) e

  pub empties_go : (at : SlotsAt) (ps : List PageId) (es : List Edit) → AreOnce ps → Empty at ps es → Go claimed at es
  empties_go at [] es once e = subst (Go claimed at) (sym e) tt
  empties_go at (p ∷ ps) es once e =
      subst (Go claimed at) (sym e.2)
      (go_join claimed at e.0 e.1 (go_page claimed at p (at p) [] e.0 (turns at p e.0 e.3) refl) (empties_go (after claimed at e.0) ps e.1 once.1 (later_empty at p ps e.0 e.1 once.0 e.3 e.4)))

  pub empties_done : (at : SlotsAt) (ps : List PageId) (es : List Edit) → AreOnce ps → Empty at ps es → (q : PageId) → after claimed at es q ≡ cond (is_among ps q) [] (at q)
  empties_done at [] es once e q = ap (λ xs. after claimed at xs q) e
  empties_done at (p ∷ ps) es once e q =
      ap (λ xs. after claimed at xs q) e.2 ∙ (λ i. after_join claimed at e.0 e.1 i q) ∙ empties_done (after claimed at e.0) ps e.1 once.1 (later_empty at p ps e.0 e.1 once.0 e.3 e.4) q
      ∙ ap (cond (is_among ps q) []) (λ i. one_empty at p e.0 e.3 i q) ∙ both (is_page p q) (is_among ps q) (at q)
    where
      both : (a b : Bool) (x : List (List ℕ)) → cond b [] (cond a [] x) ≡ cond (a || b) [] x
      both true true x = refl
      both true false x = refl
      both false b x = refl

  pub empties_within : (mine : PageId → Bool) (at : SlotsAt) (ps : List PageId) (es : List Edit) → ((q : PageId) → is_among ps q ≡ true → mine q ≡ true) → Empty at ps es → AreWithin claimed 0 mine es
  empties_within mine at [] es its e = subst (AreWithin claimed 0 mine) (sym e) tt
  empties_within mine at (p ∷ ps) es its e =
      subst (AreWithin claimed 0 mine) (sym e.2)
      (within_join claimed 0 mine e.0 e.1 (within_page claimed 0 mine p e.0 (turns at p e.0 e.3).on (or_left (mine p) false (its p (or_left (is_page p p) (is_among ps p) (is_page-same p)))))
      (empties_within mine at ps e.1 (λ q t. its q (or_right (is_page p q) (is_among ps q) t)) e.4))

-- ---- pages given back

pub freed_owner : (ps : List PageId) (s : Slots) (q : PageId) → page_owner (done (map release ps) s) q ≡ cond (is_among ps q) 0 (page_owner s q)
freed_owner [] s q = refl
freed_owner (p ∷ ps) s q = freed_owner ps (written (release p) s) q ∙ elim (page_cases p q) [
  | inl same ↦
      ap (cond (is_among ps q) 0) (ap (page_owner (written (release p) s)) (sym same) ∙ page_owner-same s p 0 (omega arith)) ∙ zeros (is_among ps q)
      ∙ sym (ap (λ b. cond (b || is_among ps q) 0 (page_owner s q)) (ap (is_page p) (sym same) ∙ is_page-same p))
  | inr other ↦
      ap (cond (is_among ps q) 0) (page_owner-other s p q (owner_bytes 0) (λ e. let w : true ≡ false = sym (is_page-same p) ∙ ap (is_page p) (sym e) ∙ other in cc))
      ∙ sym (ap (λ b. cond (b || is_among ps q) 0 (page_owner s q)) other)
]
  where
    zeros : (b : Bool) → ◌≡◌ {A = ℕ} (cond b 0 0) 0
    zeros true = refl
    zeros false = refl

pub freed_slots : (ps : List PageId) (s : Slots) (q : PageId) → q.page % 1280 ≢ 0 → done (map release ps) s q ≡ s q
freed_slots [] s q ne = refl
freed_slots (p ∷ ps) s q ne =
    let other : is_page (spot_of p).page q ≡ false = elim (page_cases (spot_of p).page q) [
      | inl e ↦ absurd (ne (ap (λ (r : PageId). r.page % 1280) (sym e) ∙ every_spot p))
      | inr f ↦ f
    ] in
    freed_slots ps (written (release p) s) q ne ∙ (λ i j. cond (other i && (spot_of p).slot == j) (owner_bytes 0) (s q j))

module _ (counts : List ℕ) where
  release_spread : (s : Slots) (p : PageId) → AreSpread counts (sheets s) → is_there counts p ≡ true → p.page % 1280 ≢ 0 → AreSpread counts (sheets (written (release p) s))
  release_spread s p spread there ne a alloc = subst (λ (t : SlotsAt). IsSpread counts t a) (sym (sheets_edited s (spot_of p).page (spot_of p).slot (owner_bytes 0) (few_slots p))) (spread_given counts 0 (omega arith) (sheets s) p a there ne (spread a alloc))

  pub freed_spread : (ps : List PageId) (s : Slots) → AreSpread counts (sheets s) → ((q : PageId) → is_among ps q ≡ true → (is_there counts q ≡ true) × (q.page % 1280 ≢ 0)) → AreSpread counts (sheets (done (map release ps) s))
  freed_spread [] s spread each = spread
  freed_spread (p ∷ ps) s spread each =
      let mine = each p (or_left (is_page p p) (is_among ps p) (is_page-same p)) in
      freed_spread ps (written (release p) s) (release_spread s p spread mine.0 mine.1) (λ q t. each q (or_right (is_page p q) (is_among ps q) t))

  pub freed_go : (ps : List PageId) (s : Slots) → AreSpread counts (sheets s) → AreOnce ps → ((q : PageId) → is_among ps q ≡ true → (is_there counts q ≡ true) × (q.page % 1280 ≢ 0) × (page_owner s q ≢ 0)) → MayWriteAll counts s (map release ps)
  freed_go [] s spread once each = tt
  freed_go (p ∷ ps) s spread once each =
      let mine = each p (or_left (is_page p p) (is_among ps p) (is_page-same p)) in
      let next : AreSpread counts (sheets (written (release p) s)) = release_spread s p spread mine.0 mine.1 in (
        owner_may counts s p 0 next mine.0 mine.2 (omega arith),
        freed_go ps (written (release p) s) next once.1 (λ q t.
            let its = each q (or_right (is_page p q) (is_among ps q) t) in
            let ne : q ≢ p = λ e. let w : true ≡ false = sym t ∙ ap (is_among ps) e ∙ once.0 in cc in
            (its.0, its.1, λ e. its.2 (sym (page_owner-other s p q (owner_bytes 0) ne) ∙ e))),
      )
