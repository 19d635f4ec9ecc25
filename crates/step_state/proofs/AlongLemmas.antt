-- Records that can be taken back from some pages can be from others that are alike where they matter.
use Rattle.std.proofs.Common.{◌≡◌, ◌≢◌, ℕ, ◌%◌, ◌≤◌, Bool, true, false, cond, ◌==◌, ◌&&◌, ◌||◌, List, [], ◌∷◌, ◌++◌, refl, ap, sym, subst, ◌∙◌, eq-eqb, inl, inr}
use Rattle.std.proofs.lemmas.Bool.{cases_eq}
use Rattle.page_base.specs.declared.numbers.PageId.{PageId}
use Rattle.page_base.specs.Pages.{is_page}
use Rattle.page_base.specs.Slots.{Slots, with_slot}
use Rattle.page_base.proofs.PagesLemmas.{is_page-same}
use Rattle.page_fmt.specs.Spelling.{used}
use Rattle.rec_log.specs.Records.{Record}
use Rattle.rec_log.specs.Undone.{undone}
use Rattle.rec_log.proofs.UndoneLemmas.{undone-append}
use Rattle.page_tables.proofs.SheetLemmas.{sheet_same}
use Rattle.open_tables.specs.Back.{FitsBack}
use Rattle.open_tables.specs.Names.{names}
use Rattle.open_commits.proofs.ApartLemmas.{same_from}
use Rattle.step_state.specs.Told.{AreSized, GoBack}

pub go_both : (xs ys : List Record) (s : Slots) → GoBack ys s → GoBack xs (undone ys s) → GoBack (xs ++ ys) s
go_both [] ys s b a = b
go_both (x ∷ xs) ys s b a =
    let t = subst (λ (u : Slots). (u x.page x.slot ≡ x.after) × FitsBack u x) (sym (undone-append xs ys s)) (a.1, a.2) in
    (go_both xs ys s b a.0, t.0, t.1)

pub late : (b c : Bool) → c ≡ true → (b || c) ≡ true
late true c e = refl
late false c e = e

-- on the slots of these records, and on their pages, but for those that tell of others, the slots are the same
abbrev pub AreAlike : List Record → Slots → Slots → Type 0
AreAlike rs u t = (p : PageId) (i : ℕ) → names rs p i ≡ true → (u p i ≡ t p i) × (p.page % 1280 ≢ 0 → (j : ℕ) → u p j ≡ t p j)

pub names_first : (r : Record) (rs : List Record) → names (r ∷ rs) r.page r.slot ≡ true
names_first r rs = ap (λ b. (b && r.slot == r.slot) || names rs r.page r.slot) (is_page-same r.page) ∙ ap (λ b. b || names rs r.page r.slot) (eq-eqb r.slot r.slot refl)

pub go_along : (rs : List Record) (u t : Slots) → AreSized rs → AreAlike rs u t → GoBack rs u → GoBack rs t
go_along [] u t sized alike go = tt
go_along (r ∷ rs) u t sized alike go = (
  go_along rs u t sized.1 (λ p i e. alike p i (late (is_page r.page p && r.slot == i) (names rs p i) e)) go.0,
  sym (same_from rs u t r.page r.slot (alike r.page r.slot (names_first r rs)).0) ∙ go.1,
  fits go.2,
)
  where
    fits : FitsBack (undone rs u) r → FitsBack (undone rs t) r
    fits (inl size) = inl size
    fits (inr room) = elim (cases_eq (r.page.page % 1280) 0) [
      | inl every ↦ inl (sized.0 every)
      | inr off ↦
          let same : with_slot (undone rs u) r.page r.slot r.before r.page ≡ with_slot (undone rs t) r.page r.slot r.before r.page = λ i j. cond (is_page r.page r.page && r.slot == j) r.before (same_from rs u t r.page j ((alike r.page r.slot (names_first r rs)).1 off j) i) in
          inr (subst (λ slots. used slots ≤ 8192) (sheet_same (with_slot (undone rs u) r.page r.slot r.before) (with_slot (undone rs t) r.page r.slot r.before) r.page same) room)
    ]
