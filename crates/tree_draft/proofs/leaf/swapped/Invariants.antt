use Rattle.std.proofs.Common.{◌≡◌, Some}
use Rattle.table_walk.specs.Leaves.{changed}
use Rattle.tree_draft.proofs.leaf.swapped.Given as goal

abbrev pub invariant-loop-slot : goal.invariant-loop-slot
invariant-loop-slot l = l.new.items ≡ changed l.cols l.key (Some l.row) l.yielded
