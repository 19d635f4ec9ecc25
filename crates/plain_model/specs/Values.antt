-- The value of an expression over a row; every part is evaluated, and an overflow in one is that of the whole.
use Rattle.std.specs.Prelude.{List, Option, Some, option_and_then}
use Rattle.plain_model.specs.Tree.{Tree}
use Rattle.plain_model.specs.Tree as tree
use Rattle.page_base.specs.declared.column.Column.{Column}
use Rattle.page_base.specs.declared.value.Value.{Value}
use Rattle.page_base.specs.declared.value.Value.TheVariants.{Null, Text}
use Rattle.plain_model.specs.Numbers.{literal, math, opposite}
use Rattle.plain_model.specs.Cells.{cell}

-- both, where neither is an overflow
abbrev pub both : {A B C : Type 0} → (A → B → Option C) → Option A → Option B → Option C
both f a b = option_and_then (λ x. option_and_then (f x) b) a

-- the value of a tree; none is an overflow. What is no value but a truth comes to NULL
abbrev pub value_of : List Column → List Value → Tree → Option Value
value_of cols row tree.Null = Some Null
value_of cols row (tree.Number n) = Some (literal n)
value_of cols row (tree.Text bytes) = Some (Text bytes)
value_of cols row (tree.Col name) = Some (cell cols row name)
value_of cols row (tree.Neg e) = option_and_then opposite (value_of cols row e)
value_of cols row (tree.Math op a b) = both (math op) (value_of cols row a) (value_of cols row b)
value_of cols row _ = Some Null
