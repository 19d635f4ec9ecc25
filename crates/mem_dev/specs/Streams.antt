-- What sources and sinks in memory hold.
use Rattle.std.specs.Prelude.{◌≡◌, ◌++◌, ℕ, List, length, Result, IfOk, OnErr}
use Rattle.mem_dev.specs.Plan.{Plan}

-- the bytes that are left, and the reads that fail
pub record Supply : Type 0 where
  pub left : List ℕ
  pub plan : Plan

-- the bytes taken, and the writes that fail
pub record Intake : Type 0 where
  pub taken : List ℕ
  pub plan : Plan

-- a write takes the whole piece, or nothing where it is refused
pub record TakesAll {E : Type 0} (old new : List ℕ) (result : Result ℕ E) (piece : List ℕ) : Type 0 where
  pub count : IfOk result (λ n. n ≡ length piece)
  pub taken : IfOk result (λ n. new ≡ old ++ piece)
  pub refused : OnErr result (new ≡ old)
