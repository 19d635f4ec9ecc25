use Rattle.std.proofs.Common.{get_or}
use Rattle.page_fmt.specs.Seen.{Looked}
use Rattle.table_heap.proofs.HeapLemmas.{LeavesSoFar}
use Rattle.table_heap.proofs.layout.leaf_visits.Given as goal

abbrev pub invariant-loop-j : goal.invariant-loop-j
invariant-loop-j l = (d : Looked) → LeavesSoFar l.from (get_or l.seen l.i d).slots l.j l.leaves.items
