-- What holds of each row that is taken, where rows are gone through in turn.
use Rattle.std.proofs.Common.{◌≡◌, ℕ, ◌+◌, Bool, true, false, List, [], ◌∷◌, refl}
use Rattle.std.specs.Prelude.{⊤, Option, Some, None}
use Rattle.std.specs.List.{AllByRecursion}
use Rattle.std.specs.Option.{option_or}
use Rattle.std.specs.declared.result.Result.{Result}
use Rattle.std.specs.declared.result.Result.TheVariants as result
use Rattle.page_base.specs.declared.value.Value.{Value}
use Rattle.plain_model.specs.declared.reply.Message.{Message}
use Rattle.plain_model.specs.Outcomes.{Outcome, Refused, Passed, Taken, after_row, taken_from, behind, unless_fault}

-- what is taken is such a row
abbrev pub Takes : (List Value → Type 0) → Outcome (List Value) → Type 0
Takes P (Refused number) = ⊤
Takes P Passed = ⊤
Takes P (Taken row) = P row

abbrev pub TakesAll : (List Value → Type 0) → Result (List (List Value)) Message → Type 0
TakesAll P (result.Ok rows) = AllByRecursion P rows
TakesAll P (result.Err m) = ⊤

pub after_takes : (P : List Value → Type 0) (place : ℕ) (o : Outcome (List Value)) (later : Result (List (List Value)) Message) → Takes P o → TakesAll P later → TakesAll P (after_row place o later)
after_takes P place (Refused number) later h hs = tt
after_takes P place Passed later h hs = hs
after_takes P place (Taken row) (result.Ok rows) h hs = (h, hs)
after_takes P place (Taken row) (result.Err m) h hs = tt

pub taken_takes : (P : List Value → Type 0) (place : ℕ) (os : List (Outcome (List Value))) → AllByRecursion (Takes P) os → TakesAll P (taken_from place os)
taken_takes P place [] h = tt
taken_takes P place (o ∷ os) h = after_takes P place o _ h.0 (taken_takes P (place + 1) os h.1)

-- a row is taken where nothing refuses it
pub unless_takes : (P : List Value → Type 0) (row : List Value) (fault : Option ℕ) → (fault ≡ None → P row) → Takes P (unless_fault row fault)
unless_takes P row (Some number) h = tt
unless_takes P row None h = h refl

pub behind_takes : (P : List Value → Type 0) (kept : Option Bool) (o : Outcome (List Value)) → Takes P o → Takes P (behind kept o)
behind_takes P None o h = tt
behind_takes P (Some true) o h = h
behind_takes P (Some false) o h = tt

-- the first of two refusals doesn't apply where none does
pub or_none : {X : Type 0} (a b : Option X) → option_or a b ≡ None → (a ≡ None) × (b ≡ None)
or_none (Some x) b e = absurd (cc)
or_none None b e = (refl, e)
