-- The type of an expression over columns, by the types of its parts.
use Rattle.std.specs.Prelude.{ℕ, ℤ, List, Bool, true, false, ◌&&◌, ◌||◌, if◌then◌else◌, Option, Some, None, option_map, option_and_then, find}
use Rattle.std.specs.Str.{bytes_eq}
use Rattle.plain_model.specs.Tree.{Tree, Entries}
use Rattle.plain_model.specs.Tree as tree
use Rattle.page_base.specs.declared.column.Column.{Column}
use Rattle.page_base.specs.declared.column.ColType.{ColType}
use Rattle.page_base.specs.declared.column.ColType.TheVariants as col
use Rattle.plain_model.specs.declared.expr_type.ExprType.{ExprType}
use Rattle.plain_model.specs.declared.expr_type.ExprType.TheVariants.{Int, Big, Text, Any, Truth}
use Rattle.plain_model.specs.Numbers.{fits_int}
use Rattle.plain_model.specs.Values.{both}

-- whether a type fits where a number stands
abbrev pub is_number_type : ExprType → Bool
is_number_type Int = true
is_number_type Big = true
is_number_type Any = true
is_number_type _ = false

-- whether a type fits where a text stands
abbrev pub is_text_type : ExprType → Bool
is_text_type Text = true
is_text_type Any = true
is_text_type _ = false

abbrev pub is_big_type : ExprType → Bool
is_big_type Big = true
is_big_type _ = false

abbrev pub is_truth_type : ExprType → Bool
is_truth_type Truth = true
is_truth_type _ = false

-- the type of a number literal: INT where it fits 32 bits, else BIGINT
abbrev pub literal_type : ℤ → ExprType
literal_type n = if fits_int n then Int else Big

-- a column's type as an expression's
abbrev pub from_column : ColType → ExprType
from_column col.Int = Int
from_column col.Big = Big
from_column (col.Text max) = Text

-- the type of the first column of a name
abbrev pub column_type : List Column → List ℕ → Option ExprType
column_type cols name = option_map (λ c. from_column c.kind) (find (λ c. bytes_eq c.name name) cols)

-- of two numbers: BIGINT where one is, else INT
abbrev pub math_type : ExprType → ExprType → Option ExprType
math_type a b = if is_number_type a && is_number_type b then Some (if is_big_type a || is_big_type b then Big else Int) else None

-- of two numbers or of two texts: a truth
abbrev pub comparison_type : ExprType → ExprType → Option ExprType
comparison_type a b = if (is_number_type a && is_number_type b) || (is_text_type a && is_text_type b) then Some Truth else None

-- of a value of any type: a truth
abbrev pub null_test_type : ExprType → Option ExprType
null_test_type a = if is_truth_type a then None else Some Truth

-- of truths: a truth
abbrev pub logic_type : ExprType → ExprType → Option ExprType
logic_type a b = if is_truth_type a && is_truth_type b then Some Truth else None

abbrev mutual
  -- the type of a tree; none where the types of its parts don't fit
  pub tree_type : List Column → Tree → Option ExprType
  tree_type cols tree.Null = Some Any
  tree_type cols (tree.Number n) = Some (literal_type n)
  tree_type cols (tree.Text bytes) = Some Text
  tree_type cols (tree.Col name) = column_type cols name
  tree_type cols (tree.Neg e) = option_and_then (λ a. math_type a a) (tree_type cols e)
  tree_type cols (tree.Math op a b) = both math_type (tree_type cols a) (tree_type cols b)
  tree_type cols (tree.Compare op a b) = both comparison_type (tree_type cols a) (tree_type cols b)
  tree_type cols (tree.IsNull e) = option_and_then null_test_type (tree_type cols e)
  tree_type cols (tree.Between x a b) =
      both logic_type (both comparison_type (tree_type cols x) (tree_type cols a)) (both comparison_type (tree_type cols x) (tree_type cols b))
  tree_type cols (tree.In x entries) = option_and_then (λ kind. entries_type cols kind entries) (tree_type cols x)
  tree_type cols (tree.Not e) = option_and_then (λ a. logic_type a a) (tree_type cols e)
  tree_type cols (tree.And a b) = both logic_type (tree_type cols a) (tree_type cols b)
  tree_type cols (tree.Or a b) = both logic_type (tree_type cols a) (tree_type cols b)

  -- the type of a test for one of the entries: each is compared with the value, whose type is x
  pub entries_type : List Column → ExprType → Entries → Option ExprType
  entries_type cols x (tree.Last e) = option_and_then (comparison_type x) (tree_type cols e)
  entries_type cols x (tree.More e rest) =
      both logic_type (option_and_then (comparison_type x) (tree_type cols e)) (entries_type cols x rest)
