use Rattle.std.proofs.Common.{length}
use Rattle.key_tree.proofs.SortLemmas.{SortedSoFar}
use Rattle.key_tree.proofs.sorting.by_least.Given as goal

abbrev pub invariant-loop-child : goal.invariant-loop-child
invariant-loop-child l = SortedSoFar l.fn.children.items l.left.items l.by.entries

abbrev pub decreases-loop-child : goal.decreases-loop-child
decreases-loop-child l = length l.left.items
