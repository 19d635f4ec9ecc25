use Rattle.std.proofs.Common.{List, take}
use Rattle.table_heap.specs.Leaves.{Leaf, put_rows}
use Rattle.table_heap.specs.Places.{IsDraft}
use Rattle.table_heap.proofs.draft.Draft.put_all.Given as goal

abbrev pub invariant-loop-row : goal.invariant-loop-row
invariant-loop-row l = (leaves : List Leaf) → IsDraft l.cols leaves l.fn.self.leaves.items l.fn.self.places → IsDraft l.cols (put_rows l.cols (take l.row-index l.rows) leaves) l.self.leaves.items l.self.places
