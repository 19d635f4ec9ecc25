use Rattle.std.proofs.Common.{◌≡◌, length}
use Rattle.table_walk.specs.Leaves.{trimmed}
use Rattle.tree_draft.proofs.leaf.trimmed.Given as goal

abbrev pub invariant-loop-leaf : goal.invariant-loop-leaf
invariant-loop-leaf l = trimmed l.fn.leaf.items ≡ trimmed l.leaf.items

abbrev pub decreases-loop-leaf : goal.decreases-loop-leaf
decreases-loop-leaf l = length l.leaf.items
