use Rattle.table_heap.proofs.SlotsLemmas.{Filled}
use Rattle.table_heap.proofs.leaf.filled.Given as goal

abbrev pub invariant-loop-i : goal.invariant-loop-i
invariant-loop-i l = Filled l.slots l.i l.filled
