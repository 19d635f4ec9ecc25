-- An expression that may stand under a column's name is kept by the column.
use Rattle.std.proofs.Common.{◌≡◌, ℕ, true, ◌&&◌, List, ap, ◌∙◌, subst}
use Rattle.std.specs.Prelude.{Option, Some, option_map, option_and_then, is_some, nat_le}
use Rattle.std.specs.Str.{bytes_eq}
use Rattle.std.proofs.lemmas.Bool.{and_parts}
use Rattle.std.proofs.lemmas.Slice.Eq.{bytes_eq-Decides}
use Rattle.page_base.specs.declared.column.Column.{Column}
use Rattle.page_base.specs.declared.value.Value.{Value}
use Rattle.plain_model.specs.declared.expr.Expr.{Expr}
use Rattle.plain_model.specs.declared.expr_type.ExprType.{ExprType}
use Rattle.plain_model.specs.Shape.{is_value, is_small, each_leaf, has_printable_text, operators, levels}
use Rattle.plain_model.specs.Shapes.{type_in, may_stand}
use Rattle.plain_model.specs.Sound.{is_value_expr}
use Rattle.plain_model.specs.Storing.{kept_as}
use Rattle.plain_model.specs.Tree.{tree_of}
use Rattle.plain_model.specs.Types.{from_column, column_type, comparison_type}
use Rattle.plain_model.specs.Values.{value_of, both}
use Rattle.row_fmt.specs.Rows.{FitsColumns}
use Rattle.row_types.proofs.TypeLemmas.{Keeps, IsHeld, expr_kept}
use Rattle.row_types.proofs.RowLemmas.{IsFirst}

-- names of the same bytes are one name
pub same : (m n : List ℕ) → bytes_eq m n ≡ true → m ≡ n
same m n h = (bytes_eq-Decides m n).0 h

-- what is found under a column's name is of its type
column_typed : (cols : List Column) (c : Column) → IsFirst cols c → column_type cols c.name ≡ Some (from_column c.kind)
column_typed cols c first = ap (option_map (λ (d : Column). from_column d.kind)) first

-- the texts of a value within the limits are printable
prints : (e : Expr) → is_value_expr e ≡ true → each_leaf has_printable_text (tree_of e) ≡ true
prints e h =
    let small = (and_parts (is_value (tree_of e)) (is_small (tree_of e)) h).1 in
    let few = (and_parts (nat_le (operators (tree_of e)) 1000) (nat_le (levels (tree_of e)) 100 && each_leaf has_printable_text (tree_of e)) small).1 in
    (and_parts (nat_le (levels (tree_of e)) 100) (each_leaf has_printable_text (tree_of e)) few).1

-- an expression that may stand under this name is kept by the first column of the name
pub stand_kept : (cols : List Column) (c : Column) (name : List ℕ) (over : List Column) (row : List Value) (e : Expr) (w : Value) → IsFirst cols c → name ≡ c.name → FitsColumns over row → is_value_expr e ≡ true → may_stand cols name (type_in over e) ≡ true → option_and_then (kept_as c.kind) (value_of over row (tree_of e)) ≡ Some w → Keeps IsHeld c.kind w
stand_kept cols c name over row e w first is fits sound may given =
    let column : column_type cols name ≡ Some (from_column c.kind) = ap (column_type cols) is ∙ column_typed cols c first in
    let stands = subst (λ (o : Option ExprType). is_some (both comparison_type o (type_in over e)) ≡ true) column may in
    expr_kept over row c.kind (tree_of e) w fits (prints e sound) stands given
