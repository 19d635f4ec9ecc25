-- Which keys a set of std holds, and what an INSERT's next row does to them.
use Rattle.std.specs.Prelude.{◌≡◌, ⊤, ℕ, List, ◌∷◌}
use Rattle.std.specs.declared.result.Result.{Result}
use Rattle.std.specs.declared.result.Result.TheVariants.{Ok, Err}
use Rattle.std.specs.BTreeSet.{BTreeSet}
use Rattle.std.specs.BTreeSet.{contains_by}
use Rattle.page_base.specs.declared.column.Column.{Column}
use Rattle.page_base.specs.declared.value.Value.{Value}
use Rattle.page_base.specs.Order.{key_cmp}
use Rattle.plain_model.specs.declared.expr.Expr.{Expr}
use Rattle.plain_model.specs.Inserting.{new_row, inserted_row, is_among}
use Rattle.plain_model.specs.Outcomes as outcome
use Rattle.plain_model.specs.Tables.{key_of}
use Rattle.stmt_eval.specs.declared.refusal.RowRefusal.{RowRefusal}
use Rattle.stmt_eval.specs.declared.refusal.RowRefusal.TheVariants.{Refused, Memory}

-- the set holds just these keys
pub record HasKeys (set : BTreeSet (List Value)) (keys : List (List Value)) : Type 0 where
  pub at : (key : List Value) → contains_by (key_cmp key) set ≡ is_among keys key

-- the row was taken, and the set holds its key too; or the number refuses it
abbrev pub Inserts : List (List ℕ) → List Column → List Expr → BTreeSet (List Value) → BTreeSet (List Value) → Result (List Value) RowRefusal → Type 0
Inserts names cols exprs old new (Ok row) =
    (keys : List (List Value)) → HasKeys old keys → (inserted_row cols keys (new_row names cols exprs) ≡ outcome.Taken row) × HasKeys new (key_of cols row ∷ keys)
Inserts names cols exprs old new (Err (Refused number)) =
    (keys : List (List Value)) → HasKeys old keys → inserted_row cols keys (new_row names cols exprs) ≡ outcome.Refused number
Inserts names cols exprs old new (Err Memory) = ⊤
