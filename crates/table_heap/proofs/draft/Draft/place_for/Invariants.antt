use Rattle.std.proofs.Common.{◌<◌, ℕ, [], get_or}
use Rattle.table_heap.specs.Places.{LacksRoom}
use Rattle.table_heap.proofs.draft.Draft.place_for.Given as goal

abbrev pub invariant-loop-leaf : goal.invariant-loop-leaf
invariant-loop-leaf l = (k : ℕ) → k < l.leaf → LacksRoom (get_or l.fn.self.leaves.items k []) l.size
