use Rattle.tree_draft.proofs.LeafLemmas.{AreFull}
use Rattle.tree_draft.proofs.leaf.first_empty.Given as goal

abbrev pub invariant-loop-i : goal.invariant-loop-i
invariant-loop-i l = AreFull l.leaf l.i
