-- What an UPDATE or a DELETE does to each row of a table.
use Rattle.std.specs.Prelude.{if◌then◌else◌, List, [], ◌∷◌, map, Option, Some, None, option_and_then}
use Rattle.std.specs.Str.{bytes_eq}
use Rattle.page_base.specs.declared.column.Column.{Column}
use Rattle.page_base.specs.declared.value.Value.{Value}
use Rattle.plain_model.specs.declared.expr.Expr.{Expr}
use Rattle.plain_model.specs.declared.stmt.SetItem.{SetItem}
use Rattle.plain_model.specs.declared.reply.TheConstants.Message.{OVERFLOW}
use Rattle.plain_model.specs.Cells.{cell}
use Rattle.plain_model.specs.Outcomes.{Outcome, Refused, Taken, all_of, keeps, behind, unless_fault}
use Rattle.plain_model.specs.Storing.{kept_as, row_fault}
use Rattle.plain_model.specs.Tables.{key_of}
use Rattle.plain_model.specs.Tree.{tree_of}
use Rattle.plain_model.specs.Values.{value_of}

-- what a column holds after the SETs, which see the old row: the value as the column keeps it, or the old one where it
-- isn't set; none is an overflow
abbrev pub set_to : List SetItem → List Column → List Value → Column → Option Value
set_to [] cols row c = Some (cell cols row c.name)
set_to (i ∷ sets) cols row c = if bytes_eq c.name i.col then option_and_then (kept_as c.kind) (value_of cols row (tree_of i.to)) else set_to sets cols row c

-- a row after the SETs; none is an overflow
abbrev pub set_row : List SetItem → List Column → List Value → Option (List Value)
set_row sets cols row = all_of (map (set_to sets cols row) cols)

-- a row that is right by itself is taken
abbrev pub if_right : List Column → Option (List Value) → Outcome (List Value)
if_right cols None = Refused OVERFLOW
if_right cols (Some row) = unless_fault row (row_fault cols row)

-- a row that the filter keeps is taken as the SETs make it
abbrev pub updated_row : List SetItem → Option Expr → List Column → List Value → Outcome (List Value)
updated_row sets filter cols row = behind (keeps cols filter row) (if_right cols (set_row sets cols row))

-- the key is taken of a row that the filter keeps
abbrev pub deleted_row : Option Expr → List Column → List Value → Outcome (List Value)
deleted_row filter cols row = behind (keeps cols filter row) (Taken (key_of cols row))
