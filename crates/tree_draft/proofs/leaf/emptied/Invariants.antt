use Rattle.std.proofs.Common.{◌≡◌, None}
use Rattle.table_walk.specs.Leaves.{changed}
use Rattle.tree_draft.proofs.leaf.emptied.Given as goal

abbrev pub invariant-loop-slot : goal.invariant-loop-slot
invariant-loop-slot l = l.new.items ≡ changed l.cols l.key None l.yielded
