use Rattle.table_heap.proofs.LeafLemmas.{planned_rows}
use Rattle.table_heap.proofs.law.placed_rows_are_the_rows.Goals as goal

pub returns : goal.returns
returns c = planned_rows
