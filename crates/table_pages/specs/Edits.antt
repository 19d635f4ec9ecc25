-- Edits of slots, one after the other: what they leave, whether they fit, and whether each changes its slot.
use Rattle.std.specs.Prelude.{◌≡◌, ◌≢◌, ℕ, ◌<◌, ◌≤◌, List, [], ◌∷◌, length}
use Rattle.page_base.specs.declared.numbers.PageId.{PageId}
use Rattle.page_base.specs.Pages.{set_at}
use Rattle.page_base.specs.Slots.{Slots, with_slot}
use Rattle.page_fmt.specs.Spelling.{used}
use Rattle.page_fmt.specs.Edits.{edited}
use Rattle.table_pages.specs.declared.edit.Edit.{Edit}

-- the slots after all edits
abbrev pub done : List Edit → Slots → Slots
done [] slots = slots
done (e ∷ es) slots = done es (with_slot slots e.page e.slot e.bytes)

-- a slot that a page can have, bytes that a slot can have, and room for them
pub record HasRoom (slots : List (List ℕ)) (e : Edit) : Type 0 where
  pub index : e.slot < 4048
  pub short : length e.bytes ≤ 8094
  pub room : used (edited slots e.slot e.bytes) ≤ 8192

-- each edit fits on its page, after those before it
abbrev pub FitIn : (PageId → List (List ℕ)) → List Edit → Type 0
FitIn contents [] = Unit {0}
FitIn contents (e ∷ es) = HasRoom (contents e.page) e × FitIn (set_at contents e.page (edited (contents e.page) e.slot e.bytes)) es

-- each edit changes its slot, after those before it
abbrev pub Change : Slots → List Edit → Type 0
Change slots [] = Unit {0}
Change slots (e ∷ es) = (e.bytes ≢ slots e.page e.slot) × Change (with_slot slots e.page e.slot e.bytes) es
