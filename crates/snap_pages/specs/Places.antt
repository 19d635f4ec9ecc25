-- The first place of snapshots that passes a test.
use Rattle.std.specs.Prelude.{ℕ, zero, suc, ◌+◌, Bool, if◌then◌else◌, Option, Some, None}
use Rattle.page_base.specs.declared.numbers.SnapNo.{SnapNo}

-- the first of so many places, from one on
abbrev pub first_from : (SnapNo → Bool) → ℕ → ℕ → Option SnapNo
first_from test from zero = None
first_from test from (suc n) = if test (record { 0 = from }) then Some (record { 0 = from }) else first_from test (from + 1) n
