-- Counts of faults, and answers that have their cause in one.
use Rattle.std.specs.Prelude.{◌≡◌, ℕ, ◌+◌, ◌-◌, ◌^◌, ◌≤◌, min, max, List, sum, slice_index, slice_set, Result, OnErr, IsErrOf}

-- a count rose, or stands at its last value
abbrev pub Rose : ℕ → ℕ → Type 0
Rose before now = min (before + 1) (2 ^ 64 - 1) ≤ now

-- the count never falls, and rose where the call failed
pub record HasCause {T E : Type 0} (before now : ℕ) (result : Result T E) : Type 0 where
  pub later : before ≤ now
  pub failed : OnErr result (Rose before now)

-- the same where one refusal of several is the failure
pub record HasCauseOf {T E : Type 0} (fault : E) (before now : ℕ) (result : Result T E) : Type 0 where
  pub later : before ≤ now
  pub failed : IsErrOf result fault → Rose before now

-- the same of a call on one object of several: the others' counts stand
pub record HasCauseAt {T E : Type 0} (place : ℕ) (before now : List ℕ) (result : Result T E) : Type 0 where
  pub others : now ≡ slice_set before place (slice_index now place)
  pub later : slice_index before place ≤ slice_index now place
  pub failed : OnErr result (Rose (slice_index before place) (slice_index now place))

-- a count that grew by another; it ends at the last value of u64 and never falls
abbrev pub added : ℕ → ℕ → ℕ
added a b = max a (min (a + b) (2 ^ 64 - 1))

-- the sum of several counts; it ends there too
abbrev pub total : List ℕ → ℕ
total counts = min (sum counts) (2 ^ 64 - 1)
