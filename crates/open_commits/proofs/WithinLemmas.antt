-- Records within their session's owners leave the tables of all others.
use Rattle.std.proofs.Common.{◌≡◌, ◌≢◌, ℕ, zero, suc, ◌+◌, ◌%◌, ◌<◌, Bool, true, false, cond, ◌==◌, ◌&&◌, ◌||◌, List, [], ◌∷◌, ◌++◌, refl, ap, sym, subst, ◌∙◌, eq-eqb, eqb-true, inl, inr, arith}
use Rattle.std.specs.Prelude.{◌⊎◌}
use Rattle.std.proofs.lemmas.Bool.{and_parts, ne_eqb, cases_Bool}
use Rattle.page_base.specs.declared.column.Column.{Column}
use Rattle.page_base.specs.declared.numbers.PageId.{PageId}
use Rattle.page_base.specs.Pages.{is_page}
use Rattle.page_base.specs.Slots.{Slots}
use Rattle.alloc_pages.specs.Owners.{owner_in, page_owner}
use Rattle.alloc_pages.specs.Spots.{spot_of}
use Rattle.plain_model.specs.Tables.{Rows}
use Rattle.rec_log.specs.Records.{Record}
use Rattle.rec_log.specs.Undone.{undone}
use Rattle.page_tables.specs.Bases.{AreRowsOf}
use Rattle.page_tables.specs.Mine.{AreSpread}
use Rattle.page_tables.specs.Owners.{is_there, owner, owns}
use Rattle.page_tables.specs.Sheets.{sheets}
use Rattle.page_tables.proofs.BaseLemmas.{rows_same_pages}
use Rattle.page_tables.proofs.MineLemmas.{every_spot, alloc_owner}
use Rattle.page_tables.proofs.SheetLemmas.{sheet_same}
use Rattle.page_tables.proofs.WriteLemmas.{owner_in_sheets}
use Rattle.open_tables.specs.Back.{Back}
use Rattle.open_tables.specs.Names.{names, AreClaims}
use Rattle.open_tables.proofs.BackLemmas.{back_one, claims, claimed, edits}
use Rattle.open_commits.specs.Within.{LieWithin, TellOwners}

pub differ : {P : Type 0} (b : Bool) → b ≡ true → b ≡ false → P
differ b t f = absurd (let wrong : true ≡ false = sym t ∙ f in cc)

skipped : (b c : Bool) (x y : List ℕ) → (b || c) ≡ false → (cond b x y ≡ y) × (c ≡ false)
skipped true c x y e = differ true refl e
skipped false c x y e = (refl, e)

-- a slot that no record names
pub unnamed : (xs : List Record) (s : Slots) (p : PageId) (i : ℕ) → names xs p i ≡ false → undone xs s p i ≡ s p i
unnamed [] s p i e = refl
unnamed (r ∷ rs) s p i e = let k = skipped (is_page r.page p && r.slot == i) (names rs p i) r.before (undone rs s p i) e in k.0 ∙ unnamed rs s p i k.1

pub lie_back : (writes : ℕ → Bool) (rs : List Record) (s : Slots) → writes 0 ≡ false → Back writes rs s → LieWithin writes s rs
lie_back writes rs s none b = record { claims = claims writes rs s b; claimed = claimed writes rs s none b; edits = edits writes rs s none b }

pub spread_tells : (counts : List ℕ) (s : Slots) → AreSpread counts (sheets s) → TellOwners counts s
spread_tells counts s spread = λ p there every. alloc_owner counts s p spread there every

-- that records are taken back of claims leaves an allocation page one
pub tells_over : (counts : List ℕ) (s : Slots) (rs : List Record) → AreClaims rs → TellOwners counts (undone rs s) → TellOwners counts s
tells_over counts s rs c tell = λ p there every. elim (back_one (λ o. false) rs s p c) [
  | inl same ↦ sym same ∙ tell p there every
  | inr free ↦ absurd (omega (arith, free, tell p there every))
]

module _ (counts : List ℕ) (writes : ℕ → Bool) (s : Slots) (rs : List Record) (lie : LieWithin writes s rs) where
  pub owner_stays : (q : PageId) → writes (page_owner s q) ≡ false → page_owner (undone rs s) q ≡ page_owner s q
  owner_stays q out = elim (cases_Bool (names rs (spot_of q).page (spot_of q).slot)) [
    | inl t ↦ differ (writes (page_owner s q)) (lie.claimed q t) out
    | inr f ↦ ap owner_in (unnamed rs s (spot_of q).page (spot_of q).slot f)
  ]

  pub slot_stays : TellOwners counts s → (p : PageId) (i : ℕ) → is_there counts p ≡ true → writes (page_owner s p) ≡ false → page_owner s p ≢ 4294967295 → undone rs s p i ≡ s p i
  slot_stays tell p i there out real = elim (cases_Bool (names rs p i)) [
    | inr f ↦ unnamed rs s p i f
    | inl t ↦ elim (lie.edits p i t) [
      | inl w ↦ differ (writes (page_owner s p)) w.1 out
      | inr q ↦ absurd (real (tell p there (ap (λ (r : PageId). r.page % 1280) (sym q.1) ∙ every_spot q.0)))
    ]
  ]

  module _ (tell : TellOwners counts s) (number : ℕ) (out : writes (number + 1) ≡ false) (small : number + 1 < 4294967295) where
    its_owner : (p : PageId) → page_owner s p ≡ number + 1 → page_owner (undone rs s) p ≡ number + 1
    its_owner p is = owner_stays p (ap writes is ∙ out) ∙ is

    no_other : (p : PageId) → page_owner s p ≢ number + 1 → page_owner (undone rs s) p ≢ number + 1
    no_other p ne is = elim (back_one writes rs s p lie.claims) [
      | inl same ↦ ne (sym same ∙ is)
      | inr free ↦ absurd (omega (arith, free, is))
    ]

    same_test : (p : PageId) → (owner (sheets (undone rs s)) p == number + 1) ≡ (owner (sheets s) p == number + 1)
    same_test p = elim (cases_Bool (owner (sheets s) p == number + 1)) [
      | inl t ↦ eq-eqb (owner (sheets (undone rs s)) p) (number + 1) (owner_in_sheets (undone rs s) p ∙ its_owner p (sym (owner_in_sheets s p) ∙ eqb-true (owner (sheets s) p) (number + 1) t)) ∙ sym t
      | inr f ↦ ne_eqb (owner (sheets (undone rs s)) p) (number + 1) (λ is. no_other p (λ e. differ (owner (sheets s) p == number + 1) (eq-eqb (owner (sheets s) p) (number + 1) (owner_in_sheets s p ∙ e)) f) (sym (owner_in_sheets (undone rs s) p) ∙ is)) ∙ sym f
    ]

    same_pages : owns counts (sheets (undone rs s)) number ≡ owns counts (sheets s) number
    same_pages = λ i p. is_there counts p && same_test p i

    same_sheet : (p : PageId) → owns counts (sheets s) number p ≡ true → sheets s p ≡ sheets (undone rs s) p
    same_sheet p own =
        let parts = and_parts (is_there counts p) (owner (sheets s) p == number + 1) own in
        let is : page_owner s p ≡ number + 1 = sym (owner_in_sheets s p) ∙ eqb-true (owner (sheets s) p) (number + 1) parts.1 in
        sym (sheet_same (undone rs s) s p (λ t i. slot_stays tell p i parts.0 (ap writes is ∙ out) (λ e. absurd (omega (arith, e, is, small))) t))

    pub table_back : (cols : List Column) (root : PageId) (rows : Rows) → AreRowsOf counts (sheets s) cols number root rows → AreRowsOf counts (sheets (undone rs s)) cols number root rows
    table_back cols root rows t = rows_same_pages counts (sheets s) (sheets (undone rs s)) cols number root rows same_pages same_sheet t

    pub table_on : (cols : List Column) (root : PageId) (rows : Rows) → AreRowsOf counts (sheets (undone rs s)) cols number root rows → AreRowsOf counts (sheets s) cols number root rows
    table_on cols root rows t = rows_same_pages counts (sheets (undone rs s)) (sheets s) cols number root rows (sym same_pages) (λ p own. sym (same_sheet p (sym (λ i. same_pages i p) ∙ own))) t
