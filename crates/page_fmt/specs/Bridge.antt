-- Lists of slots, and the same pages as functions to the bytes of their slots.
use Rattle.std.specs.Prelude.{ℕ, List}
use Rattle.page_base.specs.declared.numbers.PageId.{PageId}
use Rattle.page_base.specs.Slots.{Slots}
use Rattle.page_fmt.specs.Spelling.{LastIsFull}
use Rattle.page_fmt.specs.Edits.{slot_at}
use Rattle.page_fmt.specs.Seen.{SlotsAt}

-- the bytes of each slot of these pages
abbrev pub slots_in : SlotsAt → Slots
slots_in at p i = slot_at (at p) i

-- no page's list of slots ends in an empty one
abbrev pub AreFull : SlotsAt → Type 0
AreFull at = (p : PageId) → LastIsFull (at p)
