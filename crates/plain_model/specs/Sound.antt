-- What the types of statement lists keep of each statement.
use Rattle.std.specs.Prelude.{ℕ, ◌≡◌, ◌≤◌, nat_le, length, filter, sum_by, Bool, true, ◌==◌, ◌&&◌, ◌||◌, not, List, [], ◌∷◌, map, Option, Some, None}
use Rattle.std.specs.List.{list_all, list_any, range_with_len}
use Rattle.std.specs.Str.{bytes_eq}
use Rattle.page_base.specs.declared.column.Column.{Column}
use Rattle.page_base.specs.declared.column.ColType.{ColType}
use Rattle.page_base.specs.declared.column.ColType.TheVariants as types
use Rattle.plain_model.specs.declared.expr.Expr.{Expr}
use Rattle.plain_model.specs.declared.stmt.Stmt.{Stmt}
use Rattle.plain_model.specs.declared.stmt.Stmt.TheVariants.{CreateTable, Insert, Select, Update, Delete}
use Rattle.plain_model.specs.declared.stmt.Sum.{Sum}
use Rattle.plain_model.specs.declared.stmt.Sum.TheVariants.{CountAll, SumOf}
use Rattle.plain_model.specs.declared.stmt.Items.{Items}
use Rattle.plain_model.specs.declared.stmt.Items.TheVariants.{Star, Exprs, Sums}
use Rattle.plain_model.specs.Tree.{tree_of}
use Rattle.plain_model.specs.Shape.{is_value, is_truth, is_small, each_leaf, is_no_column}

-- a value within the limits
abbrev pub is_value_expr : Expr → Bool
is_value_expr e = is_value (tree_of e) && is_small (tree_of e)

-- a truth within the limits, where there is a WHERE
abbrev pub is_filter : Option Expr → Bool
is_filter None = true
is_filter (Some e) = is_truth (tree_of e) && is_small (tree_of e)

-- an entry of VALUES is a value without columns
abbrev pub is_entry : Expr → Bool
is_entry e = is_value_expr e && each_leaf is_no_column (tree_of e)

abbrev pub is_sum : Sum → Bool
is_sum CountAll = true
is_sum (SumOf e) = is_value_expr e

abbrev pub are_items : Items → Bool
are_items Star = true
are_items (Exprs es) = list_all is_value_expr es
are_items (Sums ss) = list_all is_sum ss

-- no name stands twice
abbrev pub are_distinct : List (List ℕ) → Bool
are_distinct [] = true
are_distinct (n ∷ ns) = not (list_any (bytes_eq n) ns) && are_distinct ns

abbrev pub is_type : ColType → Bool
is_type types.Int = true
is_type types.Big = true
is_type (types.Text max) = nat_le 1 max && nat_le max 8000

-- a column of the key may not be NULL
abbrev pub is_column : Column → Bool
is_column c = is_type c.kind && (not c.nullable || c.key == 0)

-- one column has this place in the key
abbrev pub has_place : List Column → ℕ → Bool
has_place cols place = length (filter (λ c. c.key == place) cols) == 1

-- a table definition that isn't a bad one: up to 64 columns of different names, and 1 to 16 of them are the key,
-- with the places 1, 2 and so on
abbrev pub is_definition : List Column → Bool
is_definition cols =
    let size = length (filter (λ c. nat_le 1 c.key) cols) in
    nat_le (length cols) 64 && (are_distinct (map (λ c. c.name) cols) && (list_all is_column cols
    && (nat_le 1 size && (nat_le size 16 && list_all (has_place cols) (range_with_len 1 size)))))

-- the columns of a bad definition are none
abbrev pub are_columns : List Column → Bool
are_columns [] = true
are_columns (c ∷ cs) = is_definition (c ∷ cs)

-- What always holds of a statement that was read: its table definition is a good one or empty, texts are printable,
-- no column stands in VALUES, values and truths stand where they must, and the limits are kept.
abbrev pub is_sound : Stmt → Bool
is_sound (CreateTable name cols) = are_columns cols
is_sound (Insert i) = nat_le (length i.rows) 1000 && list_all (list_all is_entry) i.rows
is_sound (Select s) = are_items s.items && is_filter s.filter
is_sound (Update u) = list_all (λ i. is_value_expr i.to) u.sets && is_filter u.filter
is_sound (Delete d) = is_filter d.filter
is_sound _ = true

abbrev pub are_sound : List Stmt → Bool
are_sound stmts = list_all is_sound stmts

-- at most 64 sessions with at most 20,000 statements in all, each a sound one
pub record AreScripts (sessions : List (List Stmt)) : Type 0 where
  pub few : length sessions ≤ 64
  pub short : sum_by length sessions ≤ 20000
  pub sound : list_all are_sound sessions ≡ true
