-- What the parts of a SELECT say.
use Rattle.std.specs.Prelude.{◌≡◌, ℕ, Bool, true, false, List, [], Option, Some, None}
use Rattle.plain_model.specs.declared.expr.Expr.{Expr}
use Rattle.plain_model.specs.declared.stmt.Items.{Items}
use Rattle.plain_model.specs.declared.stmt.Items.TheVariants as items
use Rattle.plain_model.specs.declared.stmt.OrderItem.{OrderItem}
use Rattle.plain_model.specs.declared.stmt.SelectStmt.{SelectStmt}
use Rattle.plain_model.specs.declared.stmt.Sum.{Sum}
use Rattle.plain_model.specs.declared.stmt.Sum.TheVariants.{CountAll, SumOf}
use Rattle.sql_form.specs.Form.{Value, Left, Right}
use Rattle.sql_stmt.specs.SelectForms.{order_item, order_by, aggregate, select, from_table, direction, shown, count_all, sum_of, select_sums, select_rows}
use Rattle.sql_stmt.specs.Saying.{SaysExpr, SayEach, SaysOption, SaysList, SaysEither, SaysInside, SaysFilter}

-- COUNT ( * )
abbrev pub SaysCountAll : Sum → Value count_all → Type 0
SaysCountAll CountAll v = Unit {0}
SaysCountAll (SumOf e) v = ⊥

-- SUM ( e )
abbrev pub SaysSumOf : Sum → Value sum_of → Type 0
SaysSumOf CountAll v = ⊥
SaysSumOf (SumOf e) (word, v) = SaysInside SaysExpr e v

-- COUNT ( * ) | SUM ( e )
abbrev pub SaysSum : Sum → Value aggregate → Type 0
SaysSum sum v = SaysEither SaysCountAll SaysSumOf sum v

-- * | e { , e }
abbrev pub SaysShown : Items → Value shown → Type 0
SaysShown items.Star (Left v) = Unit {0}
SaysShown items.Star (Right v) = ⊥
SaysShown (items.Exprs es) (Left v) = ⊥
SaysShown (items.Exprs es) (Right v) = SayEach SaysExpr es v
SaysShown (items.Sums ss) v = ⊥

-- agg { , agg }
abbrev pub SaysSums : Items → List (Value aggregate) → Type 0
SaysSums (items.Sums ss) v = SayEach SaysSum ss v
SaysSums _ v = ⊥

-- ASC | DESC
abbrev pub SaysDown : Bool → Option (Value direction) → Type 0
SaysDown down None = down ≡ false
SaysDown down (Some (Left v)) = down ≡ false
SaysDown down (Some (Right v)) = down ≡ true

-- name [ASC | DESC]
abbrev pub SaysOrderItem : OrderItem → Value order_item → Type 0
SaysOrderItem item (name, down) = (item.col ≡ name) × SaysDown item.down down

-- ORDER BY name [ASC | DESC] { , name [ASC | DESC] }
abbrev pub SaysOrder : List OrderItem → Value order_by → Type 0
SaysOrder list (order_word, (by, v)) = SayEach SaysOrderItem list v

-- FROM table [WHERE e]
abbrev pub SaysFrom : List ℕ × Option Expr → Value from_table → Type 0
SaysFrom from (word, (table, filter)) = (from.0 ≡ table) × SaysOption SaysFilter from.1 filter

-- agg { , agg } FROM table [WHERE e]
abbrev pub SaysSelectSums : SelectStmt → Value select_sums → Type 0
SaysSelectSums s (sums, from) = SaysSums s.items sums × SaysFrom (s.table, s.filter) from × (s.order ≡ [])

-- * FROM .. | e { , e } FROM .. , each with an ORDER BY or without
abbrev pub SaysSelectRows : SelectStmt → Value select_rows → Type 0
SaysSelectRows s (shown, (from, order)) = SaysShown s.items shown × SaysFrom (s.table, s.filter) from × SaysList SaysOrder s.order order

-- SELECT ..
abbrev pub SaysSelect : SelectStmt → Value select → Type 0
SaysSelect s (word, v) = SaysEither SaysSelectSums SaysSelectRows s v
