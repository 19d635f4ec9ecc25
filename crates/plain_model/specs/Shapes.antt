-- Which statements don't suit the columns of their table, whatever its rows are.
use Rattle.std.specs.Prelude.{ℕ, Bool, true, false, not, ◌&&◌, ◌||◌, nat_le, List, [], ◌∷◌, map, Option, Some, None, is_some, is_none}
use Rattle.std.specs.Str.{bytes_eq}
use Rattle.std.specs.List.{list_all, list_any}
use Rattle.page_base.specs.declared.column.Column.{Column}
use Rattle.plain_model.specs.declared.expr.Expr.{Expr}
use Rattle.plain_model.specs.declared.expr_type.ExprType.{ExprType}
use Rattle.plain_model.specs.declared.expr_type.ExprType.TheVariants as types
use Rattle.plain_model.specs.declared.stmt.InsertStmt.{InsertStmt}
use Rattle.plain_model.specs.declared.stmt.Items.{Items}
use Rattle.plain_model.specs.declared.stmt.Items.TheVariants.{Star, Exprs, Sums}
use Rattle.plain_model.specs.declared.stmt.SelectStmt.{SelectStmt}
use Rattle.plain_model.specs.declared.stmt.Sum.{Sum}
use Rattle.plain_model.specs.declared.stmt.Sum.TheVariants.{CountAll, SumOf}
use Rattle.plain_model.specs.declared.stmt.UpdateStmt.{UpdateStmt}
use Rattle.plain_model.specs.declared.stmt.DeleteStmt.{DeleteStmt}
use Rattle.plain_model.specs.declared.reply.TheConstants.Message.{KEY_UPDATE, NO_COLUMN, TYPE_CLASH}
use Rattle.plain_model.specs.Inserting.{target_names}
use Rattle.plain_model.specs.Messages.{first_that}
use Rattle.plain_model.specs.Names.{first_unknown, is_unknown}
use Rattle.plain_model.specs.Sound.{are_distinct}
use Rattle.plain_model.specs.Tree.{tree_of}
use Rattle.plain_model.specs.Types.{tree_type, column_type, comparison_type}
use Rattle.plain_model.specs.Values.{both}

-- an expression names what is no column
abbrev pub is_lost : List Column → Expr → Bool
is_lost cols e = is_some (first_unknown cols (tree_of e))

abbrev pub type_in : List Column → Expr → Option ExprType
type_in cols e = tree_type cols (tree_of e)

abbrev pub is_lost_filter : List Column → Option Expr → Bool
is_lost_filter cols None = false
is_lost_filter cols (Some e) = is_lost cols e

abbrev pub comes_to_truth : Option ExprType → Bool
comes_to_truth (Some types.Truth) = true
comes_to_truth _ = false

-- the types in a filter don't fit
abbrev pub is_ill_filter : List Column → Option Expr → Bool
is_ill_filter cols None = false
is_ill_filter cols (Some e) = not (comes_to_truth (type_in cols e))

-- SUM takes numbers, and no bare NULL
abbrev pub is_summable : Option ExprType → Bool
is_summable (Some types.Int) = true
is_summable (Some types.Big) = true
is_summable _ = false

abbrev pub is_lost_sum : List Column → Sum → Bool
is_lost_sum cols CountAll = false
is_lost_sum cols (SumOf e) = is_lost cols e

abbrev pub is_ill_sum : List Column → Sum → Bool
is_ill_sum cols CountAll = false
is_ill_sum cols (SumOf e) = not (is_summable (type_in cols e))

-- the items of a SELECT name what is no column
abbrev pub are_lost : List Column → Items → Bool
are_lost cols Star = false
are_lost cols (Exprs es) = list_any (is_lost cols) es
are_lost cols (Sums ss) = list_any (is_lost_sum cols) ss

-- the types in them don't fit
abbrev pub are_ill : List Column → Items → Bool
are_ill cols Star = false
are_ill cols (Exprs es) = list_any (λ e. is_none (type_in cols e)) es
are_ill cols (Sums ss) = list_any (is_ill_sum cols) ss

-- a value of this type may stand in the column of this name: a number among numbers, a text among texts, a bare NULL
-- anywhere, just as it may be compared with the column
abbrev pub may_stand : List Column → List ℕ → Option ExprType → Bool
may_stand cols name type = is_some (both comparison_type (column_type cols name) type)

-- there is a value for each name, and it may stand in the name's column
abbrev pub may_all_stand : List Column → List (List ℕ) → List Expr → Bool
may_all_stand cols [] [] = true
may_all_stand cols [] (e ∷ exprs) = false
may_all_stand cols (name ∷ names) [] = false
may_all_stand cols (name ∷ names) (e ∷ exprs) = may_stand cols name (type_in [] e) && may_all_stand cols names exprs

-- a SELECT: NO_COLUMN for a name, TYPE_CLASH for a type
abbrev pub select_fault : SelectStmt → List Column → Option ℕ
select_fault s cols = first_that (
    (are_lost cols s.items || (is_lost_filter cols s.filter || list_any (λ o. is_unknown cols o.col) s.order), NO_COLUMN)
    ∷ (are_ill cols s.items || is_ill_filter cols s.filter, TYPE_CLASH) ∷ [])

-- an INSERT: NO_COLUMN for a name, TYPE_CLASH for a column named twice and for a list of values that doesn't suit its columns
abbrev pub insert_fault : InsertStmt → List Column → Option ℕ
insert_fault i cols = first_that (
    (list_any (is_unknown cols) i.cols, NO_COLUMN)
    ∷ (not (are_distinct i.cols) || not (list_all (may_all_stand cols (target_names i.cols cols)) i.rows), TYPE_CLASH) ∷ [])

-- a column of the key has this name
abbrev pub is_key_name : List Column → List ℕ → Bool
is_key_name cols name = list_any (λ c. bytes_eq c.name name && nat_le 1 c.key) cols

-- an UPDATE: NO_COLUMN for a name, KEY_UPDATE for a column of the key, TYPE_CLASH for a column set twice and for a type
abbrev pub update_fault : UpdateStmt → List Column → Option ℕ
update_fault u cols = first_that (
    (list_any (λ i. is_unknown cols i.col || is_lost cols i.to) u.sets || is_lost_filter cols u.filter, NO_COLUMN)
    ∷ (list_any (λ i. is_key_name cols i.col) u.sets, KEY_UPDATE)
    ∷ (not (are_distinct (map (λ i. i.col) u.sets)) || (not (list_all (λ i. may_stand cols i.col (type_in cols i.to)) u.sets) || is_ill_filter cols u.filter), TYPE_CLASH) ∷ [])

-- a DELETE: NO_COLUMN for a name, TYPE_CLASH for a type
abbrev pub delete_fault : DeleteStmt → List Column → Option ℕ
delete_fault d cols = first_that ((is_lost_filter cols d.filter, NO_COLUMN) ∷ (is_ill_filter cols d.filter, TYPE_CLASH) ∷ [])
