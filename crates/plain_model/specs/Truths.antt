-- The truth of an expression over a row; every part is evaluated, and an overflow in one is that of the whole.
use Rattle.std.specs.Prelude.{List, Option, Some, option_map}
use Rattle.plain_model.specs.Tree.{Tree, Entries}
use Rattle.plain_model.specs.Tree as tree
use Rattle.plain_model.specs.declared.expr.CompareOp.{CompareOp}
use Rattle.plain_model.specs.declared.expr.CompareOp.TheVariants.{Eq, Le, Ge}
use Rattle.page_base.specs.declared.column.Column.{Column}
use Rattle.page_base.specs.declared.value.Value.{Value}
use Rattle.page_base.specs.declared.value.Truth.{Truth}
use Rattle.page_base.specs.declared.value.Truth.TheVariants.{Unknown}
use Rattle.plain_model.specs.Comparing.{compared, null_test}
use Rattle.plain_model.specs.Logic.{and3, or3, not3}
use Rattle.plain_model.specs.Values.{value_of, both}

-- two values compared
abbrev pub comparison : List Column → List Value → CompareOp → Tree → Tree → Option Truth
comparison cols row op a b = both (λ x y. Some (compared op x y)) (value_of cols row a) (value_of cols row b)

-- a AND b
abbrev pub conjunction : Option Truth → Option Truth → Option Truth
conjunction = both (λ a b. Some (and3 a b))

-- a OR b
abbrev pub disjunction : Option Truth → Option Truth → Option Truth
disjunction = both (λ a b. Some (or3 a b))

-- whether a value equals an entry of a list, or one behind it
abbrev pub among : List Column → List Value → Tree → Entries → Option Truth
among cols row x (tree.Last e) = comparison cols row Eq x e
among cols row x (tree.More e rest) = disjunction (comparison cols row Eq x e) (among cols row x rest)

-- the truth of a tree; none is an overflow. What is no truth but a value comes to UNKNOWN
abbrev pub truth_of : List Column → List Value → Tree → Option Truth
truth_of cols row (tree.Compare op a b) = comparison cols row op a b
truth_of cols row (tree.IsNull e) = option_map null_test (value_of cols row e)
truth_of cols row (tree.Between x a b) = conjunction (comparison cols row Ge x a) (comparison cols row Le x b)
truth_of cols row (tree.In x entries) = among cols row x entries
truth_of cols row (tree.Not e) = option_map not3 (truth_of cols row e)
truth_of cols row (tree.And a b) = conjunction (truth_of cols row a) (truth_of cols row b)
truth_of cols row (tree.Or a b) = disjunction (truth_of cols row a) (truth_of cols row b)
truth_of cols row _ = Some Unknown
