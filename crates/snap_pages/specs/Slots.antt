-- The source's pages as functions to the bytes of their slots.
use Rattle.std.specs.Prelude.{◌≡◌, ℕ, List}
use Rattle.page_base.specs.declared.numbers.PageId.{PageId}
use Rattle.page_base.specs.Slots.{Slots, with_slot}
use Rattle.page_fmt.specs.Content.{content}
use Rattle.page_fmt.specs.Edits.{slot_at}
use Rattle.snap_pages.specs.Shown.{Shown, img}

-- the slots of these images
abbrev pub slots_of : (PageId → List ℕ) → Slots
slots_of images p i = slot_at (content (images p)) i

-- one slot of one source page has these bytes, and all others have what they had
abbrev pub SetsSlot : Shown → Shown → PageId → ℕ → List ℕ → Type 0
SetsSlot old new p i bytes = slots_of (img new) ≡ with_slot (slots_of (img old)) p i bytes
