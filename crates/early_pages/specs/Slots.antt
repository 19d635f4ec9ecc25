-- The source's pages as functions to the bytes of their slots.
use Rattle.std.specs.Prelude.{ℕ, List}
use Rattle.page_base.specs.declared.numbers.PageId.{PageId}
use Rattle.page_base.specs.Slots.{Slots}
use Rattle.page_fmt.specs.Content.{content}
use Rattle.page_fmt.specs.Edits.{slot_at}

-- the slots of these images
abbrev pub slots_of : (PageId → List ℕ) → Slots
slots_of images p i = slot_at (content (images p)) i
