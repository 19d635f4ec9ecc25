-- The layout of all tables: the heap. Nothing above names a layout but by these words.
use Rattle.std.specs.Prelude.{ℕ, List}
use Rattle.page_base.specs.declared.column.Column.{Column}
use Rattle.page_base.specs.declared.numbers.PageId.{PageId}
use Rattle.page_base.specs.declared.value.Value.{Value}
use Rattle.page_fmt.specs.Seen.{Looked}
use Rattle.table_walk.specs.declared.plan.Edit.{Edit}
use Rattle.table_walk.specs.declared.visit.Visit.{Visit}
use Rattle.table_walk.specs.Tables.{Shape}
use Rattle.table_heap.specs.Heap as heap
use Rattle.table_heap.specs.Planning as planning

-- what pages of a table name, and what else a table keeps
abbrev pub shape : Shape
shape = heap.heap_shape

-- the visit of a table's root
abbrev pub first : PageId → Visit
first root = heap.first root

-- what a plan promises that cuts keys and puts rows, over what was read
abbrev pub Promises : List Column → List Looked → PageId → List (List Value) → List (List Value) → ℕ → List Edit → Type 0
Promises = planning.Promises
