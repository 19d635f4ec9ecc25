-- What a table statement means over its table: its refusals by shape, its changes and its reply.
use Rattle.std.specs.Prelude.{ℕ, Bool, true, false, List, [], ◌∷◌, map, length, Option, Some, None, option_map}
use Rattle.std.specs.declared.result.Result.{Result}
use Rattle.std.specs.declared.result.Result.TheVariants as result
use Rattle.std.specs.FinMap as finite
use Rattle.page_base.specs.declared.column.Column.{Column}
use Rattle.page_base.specs.declared.value.Value.{Value}
use Rattle.plain_model.specs.declared.expr.Expr.{Expr}
use Rattle.plain_model.specs.declared.stmt.Stmt.{Stmt}
use Rattle.plain_model.specs.declared.stmt.Stmt.TheVariants.{CreateTable, DropTable, Insert, Select, Update, Delete}
use Rattle.plain_model.specs.declared.stmt.Items.{Items}
use Rattle.plain_model.specs.declared.stmt.Items.TheVariants.{Star, Exprs, Sums}
use Rattle.plain_model.specs.declared.stmt.OrderItem.{OrderItem}
use Rattle.plain_model.specs.declared.reply.Message.{Message}
use Rattle.plain_model.specs.declared.reply.Reply.{Reply}
use Rattle.plain_model.specs.declared.reply.Reply.TheVariants.{Ok, Count, Msg}
use Rattle.plain_model.specs.declared.reply.TheConstants.Message.{NO_TABLE, TABLE_IS_THERE}
use Rattle.plain_model.specs.Changing.{updated_row, deleted_row}
use Rattle.plain_model.specs.Inserting.{target_names, new_row, inserted_from}
use Rattle.plain_model.specs.Messages.{plain}
use Rattle.plain_model.specs.Outcomes.{taken_from}
use Rattle.plain_model.specs.Selecting.{select_rows}
use Rattle.plain_model.specs.Shapes.{select_fault, insert_fault, update_fault, delete_fault}
use Rattle.plain_model.specs.Tables.{Table, Change, Put, Cut, Add, Remove, rows_of}
use Rattle.plain_model.specs.Totals.{select_totals}

-- a statement needs its table, and suits its columns
abbrev pub needs : (List Column → Option ℕ) → Option Table → Option Message
needs fault None = Some (plain NO_TABLE)
needs fault (Some t) = option_map plain (fault t.cols)

-- CREATE TABLE needs that there is no table of the name
abbrev pub is_new : Option Table → Option Message
is_new None = None
is_new (Some t) = Some (plain TABLE_IS_THERE)

-- the first refusal that the statement's shape gives over its table, which may not be there
abbrev pub shape_over : Stmt → Option Table → Option Message
shape_over (CreateTable name cols) table = is_new table
shape_over (DropTable name) table = needs (λ cols. None) table
shape_over (Insert i) table = needs (insert_fault i) table
shape_over (Select s) table = needs (select_fault s) table
shape_over (Update u) table = needs (update_fault u) table
shape_over (Delete d) table = needs (delete_fault d) table
shape_over stmt table = None

-- a change for each row that was taken, and how many they are, or the refusal of the first row that fails
abbrev pub changes_of : (List Value → Change) → Result (List (List Value)) Message → List Change × Reply
changes_of change (result.Ok taken) = (map change taken, Count (length taken))
changes_of change (result.Err m) = ([], Msg m)

-- the answer of a SELECT: rows, or one row of aggregates
abbrev pub selected : Items → Option Expr → List OrderItem → Table → Reply
selected Star filter order t = select_rows Star filter order t
selected (Exprs es) filter order t = select_rows (Exprs es) filter order t
selected (Sums ss) filter order t = select_totals ss filter t

-- what the statement changes over its table, and its reply
abbrev pub data_over : Stmt → Table → List Change × Reply
data_over (CreateTable name cols) t = (Add name cols ∷ [], Ok)
data_over (DropTable name) t = (Remove name ∷ [], Ok)
data_over (Insert i) t = changes_of (Put i.table) (inserted_from t.cols (finite.keys t.rows) 1 (map (new_row (target_names i.cols t.cols) t.cols) i.rows))
data_over (Select s) t = ([], selected s.items s.filter s.order t)
data_over (Update u) t = changes_of (Put u.table) (taken_from 1 (map (updated_row u.sets u.filter t.cols) (rows_of t)))
data_over (Delete d) t = changes_of (Cut d.table) (taken_from 1 (map (deleted_row d.filter t.cols) (rows_of t)))
data_over stmt t = ([], Ok)

-- whether the statement reads or changes the rows of its table
abbrev pub is_of_rows : Stmt → Bool
is_of_rows (Insert i) = true
is_of_rows (Select s) = true
is_of_rows (Update u) = true
is_of_rows (Delete d) = true
is_of_rows stmt = false

-- the table that the statement is about
abbrev pub table_named : Stmt → List ℕ
table_named (CreateTable name cols) = name
table_named (DropTable name) = name
table_named (Insert i) = i.table
table_named (Select s) = s.table
table_named (Update u) = u.table
table_named (Delete d) = d.table
table_named stmt = []
