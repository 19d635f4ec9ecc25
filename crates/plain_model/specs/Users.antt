-- Which sessions and snapshots are in the way where a database is to be dropped or reverted.
use Rattle.std.specs.Prelude.{ℕ, ◌+◌, Bool, true, false, ◌==◌, ◌&&◌, ◌||◌, not, if◌then◌else◌, List, [], ◌∷◌, find, Option, Some, None}
use Rattle.std.specs.Str.{bytes_eq}
use Rattle.page_base.specs.declared.numbers.Mode.{Mode}
use Rattle.plain_model.specs.declared.event.LockName.{LockName}
use Rattle.plain_model.specs.State.{Plain, Session, Snap}

-- of the sessions from number j on the first for which a test holds
abbrev pub first_session : (ℕ → Session → Bool) → ℕ → List Session → Option ℕ
first_session test j [] = None
first_session test j (s ∷ ss) = if test j s then Some j else first_session test (j + 1) ss

-- the lowest session whose current database it is, the asking one included
abbrev pub user_of : Plain → List ℕ → Option ℕ
user_of st d = first_session (λ j s. bytes_eq s.current d) 1 st.sessions

-- whether these are any locks
abbrev pub is_locking : List (LockName × Mode) → Bool
is_locking [] = false
is_locking (l ∷ ls) = true

-- the session is in one of the two databases
abbrev pub is_in_either : List ℕ → List ℕ → Session → Bool
is_in_either d snap s = bytes_eq s.current d || bytes_eq s.current snap

-- the lowest other session that is in one of the two databases, or holds a lock
abbrev pub in_use_by : Plain → ℕ → List ℕ → List ℕ → Option ℕ
in_use_by st k d snap = first_session (λ j s. not (j == k) && (is_in_either d snap s || is_locking s.locks)) 1 st.sessions

-- the first snapshot, in order of cuts, that has another name
abbrev pub other_snap : Plain → List ℕ → Option Snap
other_snap st snap = find (λ s. not (bytes_eq s.name snap)) st.snaps
