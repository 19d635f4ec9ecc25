-- What a SELECT answers over a table.
use Rattle.std.specs.Prelude.{List, [], map, Option, Some, option_map}
use Rattle.std.specs.declared.result.Result.{Result}
use Rattle.std.specs.declared.result.Result.TheVariants as result
use Rattle.page_base.specs.declared.column.Column.{Column}
use Rattle.page_base.specs.declared.value.Value.{Value}
use Rattle.page_base.specs.declared.value.Value.TheVariants.{Int, Big}
use Rattle.plain_model.specs.declared.expr.Expr.{Expr}
use Rattle.plain_model.specs.declared.stmt.Items.{Items}
use Rattle.plain_model.specs.declared.stmt.Items.TheVariants.{Star, Exprs, Sums}
use Rattle.plain_model.specs.declared.stmt.OrderItem.{OrderItem}
use Rattle.plain_model.specs.declared.reply.Message.{Message}
use Rattle.plain_model.specs.declared.reply.Reply.{Reply}
use Rattle.plain_model.specs.declared.reply.Reply.TheVariants.{Rows, Msg}
use Rattle.plain_model.specs.Outcomes.{Outcome, taken_from, all_of, or_overflow, keeps, behind}
use Rattle.plain_model.specs.Sorting.{sorted_by, is_before}
use Rattle.plain_model.specs.Tables.{Table, rows_of}
use Rattle.plain_model.specs.Tree.{tree_of}
use Rattle.plain_model.specs.Values.{value_of}

-- in a reply every number is a `Big`
abbrev pub shown : Value → Value
shown (Int n) = Big n
shown value = value

-- what is shown of a row; none is an overflow. Aggregates show nothing of a row
abbrev pub shown_of : Items → List Column → List Value → Option (List Value)
shown_of Star cols row = Some row
shown_of (Exprs es) cols row = all_of (map (λ e. value_of cols row (tree_of e)) es)
shown_of (Sums ss) cols row = Some []

-- a row that the filter keeps is taken, beside what is shown of it
abbrev pub selected_row : Items → Option Expr → List Column → List Value → Outcome (List Value × List Value)
selected_row items filter cols row = behind (keeps cols filter row) (or_overflow (option_map (λ values. (row, map shown values)) (shown_of items cols row)))

-- what is shown of the rows, in the order of ORDER BY
abbrev pub shown_in_order : List Column → List OrderItem → List (List Value × List Value) → List (List Value)
shown_in_order cols order taken = map (λ t. t.1) (sorted_by (λ a b. is_before cols order a.0 b.0) taken)

-- the rows, or the refusal of the first row that fails
abbrev pub rows_reply : List Column → List OrderItem → Result (List (List Value × List Value)) Message → Reply
rows_reply cols order (result.Ok taken) = Rows (shown_in_order cols order taken)
rows_reply cols order (result.Err m) = Msg m

-- a SELECT of rows
abbrev pub select_rows : Items → Option Expr → List OrderItem → Table → Reply
select_rows items filter order t = rows_reply t.cols order (taken_from 1 (map (selected_row items filter t.cols) (rows_of t)))
