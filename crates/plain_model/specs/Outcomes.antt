-- What a statement does of each row in turn, up to the first row that is refused.
use Rattle.std.specs.Prelude.{ℕ, ◌+◌, Bool, true, false, List, [], ◌∷◌, Option, Some, None, option_map}
use Rattle.std.specs.declared.result.Result.{Result}
use Rattle.std.specs.declared.result.Result.TheVariants.{Ok, Err}
use Rattle.page_base.specs.declared.column.Column.{Column}
use Rattle.page_base.specs.declared.value.Value.{Value}
use Rattle.page_base.specs.declared.value.Truth.{Truth}
use Rattle.page_base.specs.declared.value.Truth.TheVariants.{True, False, Unknown}
use Rattle.plain_model.specs.declared.expr.Expr.{Expr}
use Rattle.plain_model.specs.declared.reply.Message.{Message}
use Rattle.plain_model.specs.declared.reply.TheConstants.Message.{OVERFLOW}
use Rattle.plain_model.specs.Messages.{at_place}
use Rattle.plain_model.specs.Tree.{tree_of}
use Rattle.plain_model.specs.Truths.{truth_of}

-- what becomes of one row: it is refused by a number, or passed over, or something is taken from it
pub data Outcome (X : Type 0) : Type 0 where
  Refused : (number : ℕ) → Outcome X
  Passed : Outcome X
  Taken : X → Outcome X

-- what is taken from the row at a place and from the rows after it, or the message of the first row that is refused
abbrev pub after_row : {X : Type 0} → ℕ → Outcome X → Result (List X) Message → Result (List X) Message
after_row place (Refused number) later = Err (at_place number place)
after_row place Passed later = later
after_row place (Taken x) (Ok xs) = Ok (x ∷ xs)
after_row place (Taken x) (Err m) = Err m

-- so it is of all rows from this place on
abbrev pub taken_from : {X : Type 0} → ℕ → List (Outcome X) → Result (List X) Message
taken_from place [] = Ok []
taken_from place (outcome ∷ outcomes) = after_row place outcome (taken_from (place + 1) outcomes)

-- all of them, where each is there
abbrev pub all_of : {X : Type 0} → List (Option X) → Option (List X)
all_of [] = Some []
all_of (None ∷ xs) = None
all_of (Some x ∷ xs) = option_map (λ more. x ∷ more) (all_of xs)

-- an overflow refuses the row
abbrev pub or_overflow : {X : Type 0} → Option X → Outcome X
or_overflow None = Refused OVERFLOW
or_overflow (Some x) = Taken x

-- a row is kept where the filter is TRUE
abbrev pub is_kept : Truth → Bool
is_kept True = true
is_kept False = false
is_kept Unknown = false

-- whether a filter keeps a row; none is an overflow
abbrev pub keeps : List Column → Option Expr → List Value → Option Bool
keeps cols None row = Some true
keeps cols (Some e) row = option_map is_kept (truth_of cols row (tree_of e))

-- what becomes of a row behind a filter
abbrev pub behind : {X : Type 0} → Option Bool → Outcome X → Outcome X
behind None outcome = Refused OVERFLOW
behind (Some true) outcome = outcome
behind (Some false) outcome = Passed

-- a row is taken unless something refuses it, by its number
abbrev pub unless_fault : List Value → Option ℕ → Outcome (List Value)
unless_fault row (Some number) = Refused number
unless_fault row None = Taken row
