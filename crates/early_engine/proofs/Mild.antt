-- Refusals of rows ask for no cause: none says that there is no room, or that a device failed.
use Rattle.std.proofs.Common.{◌≡◌, ◌≢◌, ℕ, ◌+◌, Bool, true, false, cond, List, [], ◌∷◌, map, refl}
use Rattle.std.specs.Prelude.{◌==◌, Option, Some, None}
use Rattle.std.specs.Option.{option_or}
use Rattle.std.specs.declared.result.Result.{Result}
use Rattle.std.specs.declared.result.Result.TheVariants as result
use Rattle.std.proofs.lemmas.Bool.{eqb-false}
use Rattle.page_base.specs.declared.value.Value.{Value}
use Rattle.plain_model.specs.declared.reply.Message.{Message}
use Rattle.plain_model.specs.declared.reply.Reply.{Reply}
use Rattle.plain_model.specs.declared.reply.TheConstants.Message.{FILE_FAILED, NO_ROOM, OVERFLOW}
use Rattle.plain_model.specs.Outcomes.{Outcome, Refused, Passed, Taken, after_row, taken_from, or_overflow, behind, unless_fault}
use Rattle.early_engine.specs.Causes.{IsNoShortage, IsNoFailure, is_early}

-- the reply says neither that there is no room nor that a device failed
abbrev pub IsHarmless : Reply → Type 0
IsHarmless reply = IsNoShortage reply × IsNoFailure reply

-- neither does a message of this number
abbrev pub IsMildNumber : ℕ → Type 0
IsMildNumber n = (n ≢ NO_ROOM) × ((is_early n ≡ false) × (n ≢ FILE_FAILED))

pub other_numbers : (n : ℕ) → (n == NO_ROOM) ≡ false → is_early n ≡ false → (n == FILE_FAILED) ≡ false → IsMildNumber n
other_numbers n room early volume = (eqb-false n NO_ROOM room, (early, eqb-false n FILE_FAILED volume))

pub mild_number : IsMildNumber OVERFLOW
mild_number = other_numbers OVERFLOW refl refl refl

-- a fault, where there is one
abbrev pub IsMildFault : Option ℕ → Type 0
IsMildFault None = Unit {0}
IsMildFault (Some n) = IsMildNumber n

pub mild_or : (a b : Option ℕ) → IsMildFault a → IsMildFault b → IsMildFault (option_or a b)
mild_or None b first second = second
mild_or (Some n) b first second = first

pub mild_if : (b : Bool) (n : ℕ) → IsMildNumber n → IsMildFault (cond b (Some n) None)
mild_if true n h = h
mild_if false n h = tt

-- what becomes of one row
abbrev pub IsMild : {X : Type 0} → Outcome X → Type 0
IsMild (Refused number) = IsMildNumber number
IsMild Passed = Unit {0}
IsMild (Taken x) = Unit {0}

-- what becomes of all rows
abbrev pub AreMild : {X : Type 0} → Result (List X) Message → Type 0
AreMild (result.Ok taken) = Unit {0}
AreMild (result.Err m) = IsMildNumber m.number

pub mild_overflow : {X : Type 0} (x : Option X) → IsMild (or_overflow x)
mild_overflow None = mild_number
mild_overflow (Some x) = tt

pub mild_behind : {X : Type 0} (kept : Option Bool) (outcome : Outcome X) → IsMild outcome → IsMild (behind kept outcome)
mild_behind None outcome h = mild_number
mild_behind (Some true) outcome h = h
mild_behind (Some false) outcome h = tt

pub mild_unless : (row : List Value) (fault : Option ℕ) → IsMildFault fault → IsMild (unless_fault row fault)
mild_unless row None h = tt
mild_unless row (Some n) h = h

pub mild_after : {X : Type 0} (place : ℕ) (outcome : Outcome X) (later : Result (List X) Message) → IsMild outcome → AreMild later → AreMild (after_row place outcome later)
mild_after place (Refused number) later h more = h
mild_after place Passed later h more = more
mild_after place (Taken x) (result.Ok xs) h more = tt
mild_after place (Taken x) (result.Err m) h more = more

pub mild_rows : {A X : Type 0} (f : A → Outcome X) → ((a : A) → IsMild (f a)) → (place : ℕ) (rows : List A) → AreMild (taken_from place (map f rows))
mild_rows f h place [] = tt
mild_rows f h place (row ∷ rows) = mild_after place (f row) (taken_from (place + 1) (map f rows)) (h row) (mild_rows f h (place + 1) rows)
