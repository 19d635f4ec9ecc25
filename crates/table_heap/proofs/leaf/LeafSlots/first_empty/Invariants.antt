use Rattle.std.proofs.Common.{◌≢◌, ◌<◌, ℕ, [], get_or}
use Rattle.table_heap.proofs.leaf.LeafSlots.first_empty.Given as goal

abbrev pub invariant-loop-i : goal.invariant-loop-i
invariant-loop-i l = (j : ℕ) → j < l.i → get_or l.self-inside.slots.items j [] ≢ []
