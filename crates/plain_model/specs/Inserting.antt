-- What an INSERT does to a table.
use Rattle.std.specs.Prelude.{ℕ, ◌+◌, Bool, if◌then◌else◌, List, [], ◌∷◌, map, Option, Some, None, option_and_then}
use Rattle.std.specs.Str.{bytes_eq}
use Rattle.std.specs.declared.result.Result.{Result}
use Rattle.std.specs.declared.result.Result.TheVariants as result
use Rattle.std.specs.List.{list_any}
use Rattle.std.specs.Option.{option_or}
use Rattle.std.specs.Ordering.{eq_by_cmp}
use Rattle.page_base.specs.declared.column.Column.{Column}
use Rattle.page_base.specs.declared.value.Value.{Value}
use Rattle.page_base.specs.declared.value.Value.TheVariants.{Null}
use Rattle.page_base.specs.Order.{key_cmp}
use Rattle.plain_model.specs.declared.expr.Expr.{Expr}
use Rattle.plain_model.specs.declared.reply.Message.{Message}
use Rattle.plain_model.specs.declared.reply.TheConstants.Message.{KEY_IS_THERE, OVERFLOW}
use Rattle.plain_model.specs.Outcomes.{Outcome, Refused, Taken, after_row, all_of, unless_fault}
use Rattle.plain_model.specs.Storing.{kept_as, new_row_fault}
use Rattle.plain_model.specs.Tables.{key_of}
use Rattle.plain_model.specs.Tree.{tree_of}
use Rattle.plain_model.specs.Values.{value_of}

-- the names of the columns that get values: all of the table's where the INSERT names none
abbrev pub target_names : List (List ℕ) → List Column → List (List ℕ)
target_names [] cols = map (λ c. c.name) cols
target_names (name ∷ names) cols = name ∷ names

-- the value that is given for the column of a name, NULL where none is; none is an overflow
abbrev pub given_for : List (List ℕ) → List Expr → List ℕ → Option Value
given_for [] exprs name = Some Null
given_for (n ∷ names) [] name = Some Null
given_for (n ∷ names) (e ∷ exprs) name = if bytes_eq n name then value_of [] [] (tree_of e) else given_for names exprs name

-- a new row as the columns keep it; none is an overflow
abbrev pub new_row : List (List ℕ) → List Column → List Expr → Option (List Value)
new_row names cols exprs = all_of (map (λ c. option_and_then (kept_as c.kind) (given_for names exprs c.name)) cols)

-- a key is one of these
abbrev pub is_among : List (List Value) → List Value → Bool
is_among keys key = list_any (eq_by_cmp key_cmp key) keys

-- what refuses a key that is there
abbrev pub key_clash : List (List Value) → List Value → Option ℕ
key_clash keys key = if is_among keys key then Some KEY_IS_THERE else None

-- what refuses a new row, where these keys are there: first the row by itself, then its key
abbrev pub fault_among : List Column → List (List Value) → List Value → Option ℕ
fault_among cols keys row = option_or (new_row_fault cols row) (key_clash keys (key_of cols row))

-- what becomes of a new row, where these keys are there
abbrev pub inserted_row : List Column → List (List Value) → Option (List Value) → Outcome (List Value)
inserted_row cols keys None = Refused OVERFLOW
inserted_row cols keys (Some row) = unless_fault row (fault_among cols keys row)

-- the keys with that of a row that was taken
abbrev pub with_taken : List Column → List (List Value) → Outcome (List Value) → List (List Value)
with_taken cols keys (Taken row) = key_of cols row ∷ keys
with_taken cols keys _ = keys

-- the new rows from this place on, each against the keys of the table and of the rows before it, or the refusal of the
-- first that fails
abbrev pub inserted_from : List Column → List (List Value) → ℕ → List (Option (List Value)) → Result (List (List Value)) Message
inserted_from cols keys place [] = result.Ok []
inserted_from cols keys place (new ∷ news) =
    let outcome = inserted_row cols keys new in
    after_row place outcome (inserted_from cols (with_taken cols keys outcome) (place + 1) news)
