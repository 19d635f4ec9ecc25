use Rattle.table_heap.proofs.NewRootLemmas.{new_root_rows}
use Rattle.table_heap.proofs.layout.new_root.Goals as goal

pub returns : goal.returns
returns c = new_root_rows
