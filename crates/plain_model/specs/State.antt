-- The state of the plain machine.
use Rattle.std.specs.Prelude.{ℕ, ◌-◌, nat_le, Bool, false, ◌==◌, ◌&&◌, ◌||◌, if◌then◌else◌, List, [], length, map, find, slice_get, slice_index_or, Option, Some, None, is_some, option_map, unwrap_or, codes}
use Rattle.std.specs.Str.{bytes_eq}
use Rattle.std.specs.List.{list_any}
use Rattle.page_base.specs.declared.numbers.Mode.{Mode}
use Rattle.plain_model.specs.declared.stmt.Level.{Level}
use Rattle.plain_model.specs.declared.stmt.Level.TheVariants as levels
use Rattle.plain_model.specs.declared.stmt.Stmt.{Stmt}
use Rattle.plain_model.specs.declared.event.LockName.{LockName}
use Rattle.plain_model.specs.Tables.{Tables, Change, apply}
use Rattle.plain_model.specs.Journal as journal
use Rattle.plain_model.specs.Journal.{Opening, OpenedSnap, Entry}

-- what is known of a session
pub record Session : Type 0 where
  -- how many of its statements were answered
  pub said : ℕ
  pub current : List ℕ
  -- how long its transactions keep what their reads lock
  pub level : Level
  -- how many of its BEGIN TRAN are open
  pub depth : ℕ
  -- the changes of its open transaction, in order
  pub work : List Change
  -- the locks that it gained, the newest first
  pub locks : List (LockName × Mode)
  -- what its present statement has gained in S
  pub gained : List LockName
  -- the snapshot that it is making, until its CREATE DATABASE is answered
  pub making : Option (List ℕ)
  pub gone : Bool
  -- the length of the history after its last reply
  pub since : ℕ
  -- the place of the first event of its present statement, if there was one
  pub first : Option ℕ

-- an open snapshot
pub record Snap : Type 0 where
  pub name : List ℕ
  pub files : List (List ℕ)
  pub cut : ℕ
  pub suspect : Bool

pub record Plain : Type 0 where
  pub opening : Opening
  pub scripts : List (List Stmt)
  -- the newest entry first
  pub journal : List Entry
  pub next_cut : ℕ
  pub sessions : List Session
  -- in order of their cuts
  pub snaps : List Snap
  -- which session reverts to which snapshot
  pub restoring : Option (ℕ × List ℕ)
  pub on_volume : List (List ℕ)
  -- names of which nobody knows whether they are on the volume
  pub in_doubt : List (List ℕ)
  -- how many events there were
  pub moment : ℕ

abbrev pub master : List ℕ
master = codes "master"

-- before its first statement; a session reads what is committed, unless it asks for more
abbrev pub fresh_session : Session
fresh_session = record { said = 0; current = master; level = levels.Committed; depth = 0; work = []; locks = []; gained = []; making = None; gone = false; since = 0; first = None }

abbrev pub opened_snap : OpenedSnap → Snap
opened_snap s = record { name = s.name; files = s.files; cut = s.cut; suspect = s.suspect }

-- before the first event
abbrev pub start : Opening → List (List Stmt) → Plain
start opening scripts = record {
  opening = opening;
  scripts = scripts;
  journal = [];
  next_cut = opening.next_cut;
  sessions = map (λ _. fresh_session) scripts;
  snaps = map opened_snap opening.snaps;
  restoring = None;
  on_volume = opening.on_volume;
  in_doubt = [];
  moment = 0;
}

-- sessions are numbered from 1
abbrev pub is_session : Plain → ℕ → Bool
is_session st k = nat_le 1 k && nat_le k (length st.sessions)

abbrev pub session : Plain → ℕ → Session
session st k = slice_index_or st.sessions (k - 1) fresh_session

-- the statement that k says next, if it has one
abbrev pub stmt_of : Plain → ℕ → Option Stmt
stmt_of st k = slice_get (slice_index_or st.scripts (k - 1) []) (session st k).said

-- the source's tables with all that was committed
abbrev pub committed : Plain → Tables
committed st = journal.source st.opening st.journal

-- the source as k sees it: with the changes of its open transaction
abbrev pub see : Plain → ℕ → Tables
see st k = apply (session st k).work (committed st)

-- the static view of a snapshot
abbrev pub copy : Plain → List ℕ → Tables
copy st snap = journal.copy st.opening st.journal snap

abbrev pub is_source : Plain → List ℕ → Bool
is_source st d = bytes_eq d st.opening.source

-- the open snapshot of this name
abbrev pub snap_named : Plain → List ℕ → Option Snap
snap_named st d = find (λ s. bytes_eq s.name d) st.snaps

abbrev pub is_snap : Plain → List ℕ → Bool
is_snap st d = is_some (snap_named st d)

-- the files of an open snapshot
abbrev pub files_of : Plain → List ℕ → List (List ℕ)
files_of st d = unwrap_or (option_map (λ s. s.files) (snap_named st d)) []

abbrev pub is_suspect : Plain → List ℕ → Bool
is_suspect st d = list_any (λ s. bytes_eq s.name d && s.suspect) st.snaps

-- a session is still making this snapshot
abbrev pub is_being_made : Plain → List ℕ → Bool
is_being_made st d = list_any (λ s. makes d s.making) st.sessions
  where
    makes : List ℕ → Option (List ℕ) → Bool
    makes d None = false
    makes d (Some snap) = bytes_eq snap d

-- the snapshot to which this session reverts the source, if it does
abbrev pub restored : Plain → ℕ → Option (List ℕ)
restored st k = by st.restoring
  where
    by : Option (ℕ × List ℕ) → Option (List ℕ)
    by None = None
    by (Some r) = if r.0 == k then Some r.1 else None

-- the source and the snapshot to which it is reverted are restoring
abbrev pub is_restoring : Plain → List ℕ → Bool
is_restoring st d = restores st.restoring
  where
    restores : Option (ℕ × List ℕ) → Bool
    restores None = false
    restores (Some r) = is_source st d || bytes_eq r.1 d
