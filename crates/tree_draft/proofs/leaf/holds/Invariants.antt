use Rattle.std.proofs.Common.{◌≡◌, drop}
use Rattle.table_walk.specs.Leaves.{holds}
use Rattle.tree_draft.proofs.leaf.holds.Given as goal

abbrev pub invariant-loop-slot : goal.invariant-loop-slot
invariant-loop-slot l = holds l.cols l.key l.leaf ≡ holds l.cols l.key (drop l.slot-index l.leaf)
