use Rattle.key_tree.proofs.KeyLemmas.{ColumnsSoFar}
use Rattle.key_tree.proofs.keys.key_columns.Given as goal

abbrev pub invariant-loop-i : goal.invariant-loop-i
invariant-loop-i l = ColumnsSoFar l.cols l.i l.keys
