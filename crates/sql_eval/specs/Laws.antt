-- The parts of an expression, each of which is evaluated.
use Rattle.std.specs.Prelude.{◌≡◌, ◌⊎◌, List, None}
use Rattle.plain_model.specs.Tree.{Tree, Entries}
use Rattle.plain_model.specs.Tree as tree
use Rattle.page_base.specs.declared.column.Column.{Column}
use Rattle.page_base.specs.declared.value.Value.{Value}
use Rattle.plain_model.specs.Truths.{truth_of}
use Rattle.plain_model.specs.Values.{value_of}

-- an expression is one of the entries of an IN
abbrev pub IsEntry : Tree → Entries → Type 0
IsEntry part (tree.Last e) = part ≡ e
IsEntry part (tree.More e rest) = (part ≡ e) ⊎ IsEntry part rest

-- an expression whose value is asked for where the whole is evaluated
abbrev pub IsValuePart : Tree → Tree → Type 0
IsValuePart part (tree.Neg e) = part ≡ e
IsValuePart part (tree.Math op a b) = (part ≡ a) ⊎ (part ≡ b)
IsValuePart part (tree.Compare op a b) = (part ≡ a) ⊎ (part ≡ b)
IsValuePart part (tree.IsNull e) = part ≡ e
IsValuePart part (tree.Between x a b) = (part ≡ x) ⊎ ((part ≡ a) ⊎ (part ≡ b))
IsValuePart part (tree.In x entries) = (part ≡ x) ⊎ IsEntry part entries
IsValuePart part _ = ⊥

-- an expression whose truth is asked for where the whole is evaluated
abbrev pub IsTruthPart : Tree → Tree → Type 0
IsTruthPart part (tree.Not e) = part ≡ e
IsTruthPart part (tree.And a b) = (part ≡ a) ⊎ (part ≡ b)
IsTruthPart part (tree.Or a b) = (part ≡ a) ⊎ (part ≡ b)
IsTruthPart part _ = ⊥

-- the value of an expression, or its truth, is an overflow
abbrev pub Overflows : List Column → List Value → Tree → Type 0
Overflows cols row t = (value_of cols row t ≡ None) ⊎ (truth_of cols row t ≡ None)
