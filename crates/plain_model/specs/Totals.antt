-- What a SELECT of aggregates answers over a table.
use Rattle.std.specs.Prelude.{ℕ, ◌+◌, ℤ, pos, ◌+ℤ◌, Bool, true, false, List, [], ◌∷◌, map, length, slice_index_or, Option, Some, None}
use Rattle.std.specs.List.{filter_map}
use Rattle.std.specs.declared.result.Result.{Result}
use Rattle.std.specs.declared.result.Result.TheVariants as result
use Rattle.page_base.specs.declared.column.Column.{Column}
use Rattle.page_base.specs.declared.value.Value.{Value}
use Rattle.page_base.specs.declared.value.Value.TheVariants.{Null}
use Rattle.plain_model.specs.declared.expr.Expr.{Expr}
use Rattle.plain_model.specs.declared.expr_type.ExprType.{ExprType}
use Rattle.plain_model.specs.declared.expr_type.ExprType.TheVariants as types
use Rattle.plain_model.specs.declared.stmt.Sum.{Sum}
use Rattle.plain_model.specs.declared.stmt.Sum.TheVariants.{CountAll, SumOf}
use Rattle.plain_model.specs.declared.reply.Message.{Message}
use Rattle.plain_model.specs.declared.reply.Reply.{Reply}
use Rattle.plain_model.specs.declared.reply.Reply.TheVariants.{Rows, Msg}
use Rattle.plain_model.specs.declared.reply.TheConstants.Message.{OVERFLOW}
use Rattle.plain_model.specs.Messages.{at_place}
use Rattle.plain_model.specs.Numbers.{number_in, stored}
use Rattle.plain_model.specs.Outcomes.{Outcome, taken_from, all_of, or_overflow, keeps, behind}
use Rattle.plain_model.specs.Selecting.{shown}
use Rattle.plain_model.specs.Tables.{Table, rows_of}
use Rattle.plain_model.specs.Tree.{tree_of}
use Rattle.plain_model.specs.Types.{tree_type}
use Rattle.plain_model.specs.Values.{value_of}

-- the argument of an aggregate over a row, NULL for COUNT(*); none is an overflow
abbrev pub argument : List Column → List Value → Sum → Option Value
argument cols row CountAll = Some Null
argument cols row (SumOf e) = value_of cols row (tree_of e)

-- a row that the filter keeps is taken by its arguments
abbrev pub summed_row : List Sum → Option Expr → List Column → List Value → Outcome (List Value)
summed_row sums filter cols row = behind (keeps cols filter row) (or_overflow (all_of (map (argument cols row) sums)))

-- the exact sum
abbrev pub total : List ℤ → ℤ
total [] = pos 0
total (n ∷ ns) = n +ℤ total ns

-- the numbers among the arguments at this place; NULLs are left out
abbrev pub numbers_at : ℕ → List (List Value) → List ℤ
numbers_at place taken = filter_map (λ arguments. number_in (slice_index_or arguments place Null)) taken

-- whether numbers of this type are BIGINTs
abbrev pub is_wide : Option ExprType → Bool
is_wide (Some types.Big) = true
is_wide _ = false

-- SUM of numbers of this type: NULL where there are none; none is an overflow
abbrev pub sum_of : Option ExprType → List ℤ → Option Value
sum_of type [] = Some Null
sum_of type (n ∷ ns) = stored (is_wide type) (total (n ∷ ns))

-- what an aggregate comes to over the rows that were taken, by the arguments at its place; COUNT(*) is an INT
abbrev pub aggregate : List Column → List (List Value) → ℕ → Sum → Option Value
aggregate cols taken place CountAll = stored false (pos (length taken))
aggregate cols taken place (SumOf e) = sum_of (tree_type cols (tree_of e)) (numbers_at place taken)

-- the aggregates from this place on
abbrev pub aggregates_from : List Column → List (List Value) → ℕ → List Sum → List (Option Value)
aggregates_from cols taken place [] = []
aggregates_from cols taken place (sum ∷ sums) = aggregate cols taken place sum ∷ aggregates_from cols taken (place + 1) sums

-- one row, or OVERFLOW with place 0 where an aggregate is outside its type
abbrev pub totals_row : Option (List Value) → Reply
totals_row None = Msg (at_place OVERFLOW 0)
totals_row (Some values) = Rows (map shown values ∷ [])

-- the aggregates, or the refusal of the first row that fails
abbrev pub totals_reply : List Column → List Sum → Result (List (List Value)) Message → Reply
totals_reply cols sums (result.Ok taken) = totals_row (all_of (aggregates_from cols taken 0 sums))
totals_reply cols sums (result.Err m) = Msg m

-- a SELECT of aggregates
abbrev pub select_totals : List Sum → Option Expr → Table → Reply
select_totals sums filter t = totals_reply t.cols sums (taken_from 1 (map (summed_row sums filter t.cols) (rows_of t)))
