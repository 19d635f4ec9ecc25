use Rattle.std.proofs.Common.{List, take}
use Rattle.page_base.specs.declared.column.Column.{Column}
use Rattle.table_heap.specs.Leaves.{Leaf, cut_keys}
use Rattle.table_heap.specs.Places.{IsDraft}
use Rattle.table_heap.proofs.draft.Draft.cut_all.Given as goal

abbrev pub invariant-loop-key : goal.invariant-loop-key
invariant-loop-key l = (cols : List Column) (leaves : List Leaf) → IsDraft cols leaves l.fn.self.leaves.items l.fn.self.places → IsDraft cols (cut_keys cols (take l.key-index l.keys) leaves) l.self.leaves.items l.self.places
