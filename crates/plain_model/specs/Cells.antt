-- What stands in a row under the name of a column.
use Rattle.std.specs.Prelude.{ℕ, List, Option, Some, None, position, slice_index_or}
use Rattle.std.specs.Str.{bytes_eq}
use Rattle.page_base.specs.declared.column.Column.{Column}
use Rattle.page_base.specs.declared.value.Value.{Value}
use Rattle.page_base.specs.declared.value.Value.TheVariants.{Null}

-- the value at a place of a row; NULL where there is none
abbrev pub cell_at : List Value → Option ℕ → Value
cell_at row None = Null
cell_at row (Some place) = slice_index_or row place Null

-- the place of the first column of a name
abbrev pub place_of : List Column → List ℕ → Option ℕ
place_of cols name = position (λ column. bytes_eq column.name name) cols

-- the value under the first column of a name
abbrev pub cell : List Column → List Value → List ℕ → Value
cell cols row name = cell_at row (place_of cols name)
