-- Who holds which table, and who is in whose way.
use Rattle.std.specs.Prelude.{ℕ, ◌+◌, Bool, true, false, ◌==◌, ◌&&◌, not, if◌then◌else◌, List, [], ◌∷◌, Option, Some, None}
use Rattle.std.specs.Str.{bytes_eq}
use Rattle.std.specs.List.{list_any}
use Rattle.page_base.specs.declared.numbers.Mode.{Mode}
use Rattle.page_base.specs.declared.numbers.Mode.TheVariants.{S, X}
use Rattle.plain_model.specs.declared.event.LockName.{LockName}
use Rattle.plain_model.specs.declared.event.LockName.TheVariants.{All, Table}
use Rattle.plain_model.specs.State.{Plain, Session}

abbrev pub same_lock : LockName → LockName → Bool
same_lock All All = true
same_lock (Table a) (Table b) = bytes_eq a b
same_lock All (Table b) = false
same_lock (Table a) All = false

-- a lock in X is one in S too
abbrev pub covers : Mode → Mode → Bool
covers X mode = true
covers S S = true
covers S X = false

-- S conflicts with X, and X with both
abbrev pub conflicts : Mode → Mode → Bool
conflicts S S = false
conflicts S X = true
conflicts X mode = true

abbrev pub holds : List (LockName × Mode) → LockName → Mode → Bool
holds locks name mode = list_any (λ l. same_lock l.0 name && covers l.1 mode) locks

abbrev pub is_in_the_way : List (LockName × Mode) → LockName → Mode → Bool
is_in_the_way locks name mode = list_any (λ l. same_lock l.0 name && conflicts l.1 mode) locks

-- of the sessions from number j on the first, other than k, that holds the table in a conflicting mode
abbrev pub holder_from : ℕ → List Session → ℕ → LockName → Mode → Option ℕ
holder_from j [] k name mode = None
holder_from j (s ∷ ss) k name mode = if not (j == k) && is_in_the_way s.locks name mode then Some j else holder_from (j + 1) ss k name mode

-- the lowest other session that holds the table in a conflicting mode
abbrev pub held : Plain → ℕ → LockName → Mode → Option ℕ
held st k name mode = holder_from 1 st.sessions k name mode
