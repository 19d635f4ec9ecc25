-- The rules that the grammar of expressions has beside its productions, each of which may be left aside.
use Rattle.std.specs.Prelude.{ℕ, ◌≡◌, ◌≤◌, ◌<◌, Bool, true, false}
use Rattle.plain_model.specs.Tree.{Tree, Compare, IsNull, Between, In, Not, And, Or}
use Rattle.plain_model.specs.Shape.{operators}

-- which rules hold: that values and truths stand where they must, that levels are limited, that operators are
pub record Rules : Type 0 where
  pub kinds : Bool
  pub levels : Bool
  pub operators : Bool

-- all of them
abbrev pub strict : Rules
strict = record { kinds = true; levels = true; operators = true }

-- none of them
abbrev pub loose : Rules
loose = record { kinds = false; levels = false; operators = false }

-- a truth, and no value
abbrev pub has_truth : Tree → Bool
has_truth (Compare op a b) = true
has_truth (IsNull a) = true
has_truth (Between a b c) = true
has_truth (In a rest) = true
has_truth (Not a) = true
has_truth (And a b) = true
has_truth (Or a b) = true
has_truth _ = false

-- a truth stands where a truth must, and a value where a value must
abbrev pub Fits : Rules → Tree → Bool → Type 0
Fits r e truth = r.kinds ≡ true → has_truth e ≡ truth

-- a further level may begin where so many are left
abbrev pub HasRoom : Rules → ℕ → Type 0
HasRoom r n = r.levels ≡ true → 0 < n

-- an expression has no more than so many operators
abbrev pub IsWithin : Rules → Tree → ℕ → Type 0
IsWithin r e most = r.operators ≡ true → operators e ≤ most
