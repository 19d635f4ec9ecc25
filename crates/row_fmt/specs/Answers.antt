-- What is answered for a row's bytes, and for bytes that are none.
use Rattle.std.specs.Prelude.{◌≡◌, ⊤, ℕ, List, Result, Ok, Err}
use Rattle.page_base.specs.declared.column.Column.{Column}
use Rattle.page_base.specs.declared.value.Value.{Value}
use Rattle.page_base.specs.Places.{IsFault}
use Rattle.row_fmt.specs.declared.refusal.RowRefusal.{RowRefusal}
use Rattle.row_fmt.specs.declared.refusal.RowRefusal.TheVariants as why
use Rattle.row_fmt.specs.Rows.{IsRowOf, row_fields}

-- the answer is this row, or want of memory
abbrev pub GivesRow : List Value → Result (List Value) RowRefusal → Type 0
GivesRow row (Ok read) = read ≡ row
GivesRow row (Err (why.Form at)) = ⊥
GivesRow row (Err why.Memory) = ⊤

-- a refusal for its form says where the first wrong field begins
abbrev pub Refuses : List Column → List ℕ → RowRefusal → Type 0
Refuses columns bytes (why.Form at) = IsFault (IsRowOf columns) row_fields bytes at
Refuses columns bytes why.Memory = ⊤
