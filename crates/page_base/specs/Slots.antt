-- Pages as functions to the bytes of their slots.
use Rattle.std.specs.Prelude.{ℕ, ◌==◌, ◌&&◌, if◌then◌else◌, List}
use Rattle.page_base.specs.declared.numbers.PageId.{PageId}
use Rattle.page_base.specs.Pages.{is_page}

-- the bytes of each slot; those of a slot that is empty, or past the last, are none
abbrev pub Slots : Type 0
Slots = PageId → ℕ → List ℕ

-- one slot holds these bytes, and all others what they held
abbrev pub with_slot : Slots → PageId → ℕ → List ℕ → Slots
with_slot slots p i bytes q j = if is_page p q && i == j then bytes else slots q j
