-- Images that are pages, as slots.
use Rattle.std.proofs.Common.{◌≡◌, ℕ, ◌≤◌, List, [], sym, subst, ◌∙◌, inl, inr, arith}
use Rattle.std.proofs.lemmas.Bool.{cases_lt}
use Rattle.std.proofs.lemmas.List.{get_or_past}
use Rattle.page_base.specs.declared.limits.TheConstants.{MAX_SLOTS}
use Rattle.page_base.specs.declared.numbers.PageId.{PageId}
use Rattle.page_fmt.specs.Content.{content, IsPage}
use Rattle.page_fmt.specs.Spelling.{used}
use Rattle.page_fmt.proofs.CallerLemmas.{same_slots}
use Rattle.snap_pages.specs.Slots.{slots_of}
use Rattle.page_tables.specs.Sheets.{sheets}
use Rattle.page_tables.proofs.SheetLemmas.{sheets_are_full, slot_of_sheet, past_sheet}

-- a page's sheet is its content
pub sheet_of_page : (images : PageId → List ℕ) (p : PageId) → IsPage (images p) → sheets (slots_of images) p ≡ content (images p)
sheet_of_page images p page = same_slots (sheets (slots_of images) p) (content (images p)) (sheets_are_full (slots_of images) p) page.fits.last (λ j. elim (cases_lt j MAX_SLOTS) [
  | inl lt ↦ slot_of_sheet (slots_of images) p j lt
  | inr ge ↦ past_sheet (slots_of images) p j ge ∙ sym (get_or_past (content (images p)) j [] (omega (arith, page.fits.small, ge)))
])

pub page_is_small : (images : PageId → List ℕ) (p : PageId) → IsPage (images p) → used (sheets (slots_of images) p) ≤ 8192
page_is_small images p page = subst (λ slots. used slots ≤ 8192) (sym (sheet_of_page images p page)) page.fits.small
