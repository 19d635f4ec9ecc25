-- What is said of pages that were read, over each table or database that stands on them.
use Rattle.std.specs.Prelude.{ℕ, ◌≡◌, Bool, List, Option, Some, None}
use Rattle.page_base.specs.declared.column.Column.{Column}
use Rattle.page_base.specs.declared.numbers.PageId.{PageId}
use Rattle.page_fmt.specs.Seen.{SlotsAt, Looked, Shows}
use Rattle.plain_model.specs.Tables.{Rows, Table, Tables}
use Rattle.sys_cat.specs.declared.desc.TableDesc.{TableDesc}
use Rattle.table_walk.specs.Tables.{HasRows}
use Rattle.page_tables.specs.Bases.{IsBase}
use Rattle.page_tables.specs.Layout.{shape, first}

-- the columns of a table that is described are those of the table that is there
abbrev pub HasCols : Option TableDesc → Option Table → Type 0
HasCols None None = Unit {0}
HasCols None (Some t) = ⊥
HasCols (Some d) None = ⊥
HasCols (Some d) (Some t) = t.cols ≡ d.cols

-- of each database that was read so
abbrev pub OfBases : List Looked → (List TableDesc → Tables → Type 0) → Type 0
OfBases looked P = (files : List ℕ) (at : SlotsAt) (ds : List TableDesc) (tables : Tables) → IsBase files at ds tables → Shows looked at → P ds tables

-- of the rows of each table that was read so, from this root on
abbrev pub OfRows : List Column → PageId → List Looked → (Rows → Type 0) → Type 0
OfRows cols root looked P = (at : SlotsAt) (owns : PageId → Bool) (rows : Rows) → HasRows shape cols at owns (first root) rows → Shows looked at → P rows
