-- The strongest lock that a session holds under a name: by these alone it is told who holds what and who is in whose way.
use Rattle.std.specs.Prelude.{ℕ, ◌≡◌, ◌≢◌, ◌<◌, Bool, true, false, if◌then◌else◌, IsTrue, List, [], ◌∷◌, Option, Some, None}
use Rattle.page_base.specs.declared.numbers.Mode.{Mode}
use Rattle.page_base.specs.declared.numbers.Mode.TheVariants.{S, X}
use Rattle.plain_model.specs.declared.event.LockName.{LockName}
use Rattle.plain_model.specs.Holding.{same_lock, covers, conflicts}
use Rattle.plain_model.specs.State.{Plain, session, is_session}

-- a lock and another of its name
abbrev pub stronger : Mode → Option Mode → Option Mode
stronger X other = Some X
stronger S None = Some S
stronger S (Some m) = Some m

-- the strongest lock under a name
abbrev pub mode_in : List (LockName × Mode) → LockName → Option Mode
mode_in [] name = None
mode_in (l ∷ ls) name = if same_lock l.0 name then stronger l.1 (mode_in ls name) else mode_in ls name

-- whether it suffices for a mode
abbrev pub suffices : Option Mode → Mode → Bool
suffices None mode = false
suffices (Some m) mode = covers m mode

-- whether it is in the way of a mode
abbrev pub hinders : Option Mode → Mode → Bool
hinders None mode = false
hinders (Some m) mode = conflicts m mode

-- what stays of a lock that the statement gained, or didn't, where it frees what it gained in S
abbrev pub unless_gained : Bool → Option Mode → Option Mode
unless_gained true (Some S) = None
unless_gained true other = other
unless_gained false other = other

-- session j is in the way of session k
pub record IsInWay (st : Plain) (k : ℕ) (name : LockName) (mode : Mode) (j : ℕ) : Type 0 where
  pub there : IsTrue (is_session st j)
  pub other : j ≢ k
  pub hinders : hinders (mode_in (session st j).locks name) mode ≡ true

-- and is the lowest that is
pub record IsLowestInWay (st : Plain) (k : ℕ) (name : LockName) (mode : Mode) (j : ℕ) : Type 0 where
  pub is : IsInWay st k name mode j
  pub lowest : (i : ℕ) → i < j → ¬ IsInWay st k name mode i
