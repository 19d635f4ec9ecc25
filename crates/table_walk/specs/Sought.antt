-- The rows gathered so far, where those of some keys are asked for.
use Rattle.std.specs.Prelude.{Bool, true, if◌then◌else◌, Option, None, Some, ◌≡◌, ℕ, List}
use Rattle.std.specs.FinMap as finite
use Rattle.page_base.specs.declared.column.Column.{Column}
use Rattle.page_base.specs.declared.value.Value.{Value}
use Rattle.plain_model.specs.Tables.{Rows}
use Rattle.table_walk.specs.Tables.{Gathers}

-- whether a key is asked for: all are, or those of a map
abbrev pub knows : Option Rows → List Value → Bool
knows None key = true
knows (Some keys) key = finite.contains_key keys key

-- the rows whose keys are asked for
abbrev pub kept : Option Rows → Rows → Rows
kept keys rows = finite.retain_keys rows (knows keys)

-- the rows with one more, where its key is asked for
abbrev pub with_asked : Option Rows → List Value → List Value → Rows → Rows
with_asked keys key row rows = if knows keys key then finite.insert rows key row else rows

-- where the cells are rows of different keys, these are those that are asked for
abbrev pub IsSought : List Column → Option Rows → List (List ℕ) → Rows → Type 0
IsSought cols keys cells rows = (all : Rows) → Gathers cols cells all → rows ≡ kept keys all
