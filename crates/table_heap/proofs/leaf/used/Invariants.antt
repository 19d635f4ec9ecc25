use Rattle.table_heap.proofs.SlotsLemmas.{Counted}
use Rattle.table_heap.proofs.leaf.used.Given as goal

abbrev pub invariant-loop-bytes : goal.invariant-loop-bytes
invariant-loop-bytes l = Counted l.slots l.bytes-index l.used
