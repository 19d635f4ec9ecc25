-- What a slot held before some records: they are taken back from the last to the first.
use Rattle.std.specs.Prelude.{◌≡◌, ℕ, List, [], ◌∷◌}
use Rattle.page_base.specs.declared.numbers.PageId.{PageId}
use Rattle.page_base.specs.Slots.{Slots, with_slot}
use Rattle.rec_log.specs.Records.{Record}

-- each record's slot set to its `before`, the last record first
abbrev pub undone : List Record → Slots → Slots
undone [] slots = slots
undone (r ∷ records) slots = with_slot (undone records slots) r.page r.slot r.before

-- no record is of this slot
abbrev pub LacksSlot : List Record → PageId → ℕ → Type 0
LacksSlot [] p i = Unit {0}
LacksSlot (r ∷ records) p i = (p ≡ r.page → i ≡ r.slot → ⊥) × LacksSlot records p i
