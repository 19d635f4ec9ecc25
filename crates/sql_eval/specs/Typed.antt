-- What the question for an expression's type answers.
use Rattle.std.specs.Prelude.{◌≡◌, List, Option, Some, None}
use Rattle.std.specs.declared.result.Result.{Result}
use Rattle.std.specs.declared.result.Result.TheVariants.{Ok, Err}
use Rattle.plain_model.specs.Tree.{Tree}
use Rattle.page_base.specs.declared.column.Column as column
use Rattle.plain_model.specs.declared.expr_type.ExprType.{ExprType}
use Rattle.sql_eval.specs.declared.types.TypeRefusal.{TypeRefusal}
use Rattle.sql_eval.specs.declared.types.TypeRefusal.TheVariants.{Column, Kind, Memory}
use Rattle.plain_model.specs.Names.{first_unknown}
use Rattle.plain_model.specs.Types.{tree_type}

-- all names are columns, and the type is as given
abbrev pub HasType : List column.Column → Tree → Option ExprType → Type 0
HasType cols t type = (first_unknown cols t ≡ None) × (tree_type cols t ≡ type)

-- the type, or the first name from the left that is no column, or that the types don't fit where all names are columns
abbrev pub Typed : List column.Column → Tree → Result ExprType TypeRefusal → Type 0
Typed cols t (Ok type) = HasType cols t (Some type)
Typed cols t (Err (Column name)) = first_unknown cols t ≡ Some name
Typed cols t (Err Kind) = HasType cols t None
Typed cols t (Err Memory) = ⊥
