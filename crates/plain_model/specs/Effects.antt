-- What replies do to the tables, the sessions and the snapshots.
use Rattle.std.specs.Prelude.{ℕ, ◌+◌, ◌-◌, nat_le, ◌==◌, ◌||◌, not, if◌then◌else◌, List, [], ◌∷◌, ◌++◌, filter, slice_set, Option, Some, None}
use Rattle.std.specs.Str.{bytes_eq}
use Rattle.std.specs.List.{list_any}
use Rattle.plain_model.specs.declared.stmt.Stmt.{Stmt}
use Rattle.plain_model.specs.declared.stmt.Stmt.TheVariants.{UseDb, CreateTable, DropTable, Insert, Update, Delete, BeginTran, Commit, Rollback, SetLevel, CreateSnap, DropDb, Restore}
use Rattle.plain_model.specs.declared.reply.Message.{Message}
use Rattle.plain_model.specs.declared.reply.TheConstants.Message.{NO_MEMORY, FILE_FAILED, FILE_NOT_REMOVED, LOG_FAILED}
use Rattle.plain_model.specs.declared.reply.Reply.{Reply}
use Rattle.plain_model.specs.declared.reply.Reply.TheVariants.{Msg}
use Rattle.plain_model.specs.Tables.{Change}
use Rattle.plain_model.specs.Journal.{Committed, Dropped, Reverted}
use Rattle.plain_model.specs.State.{Plain, Session, session, see, files_of}
use Rattle.plain_model.specs.Meaning.{change_and_reply}
use Rattle.plain_model.specs.Next.{sparse_names}

-- the state with another session k
abbrev pub with_session : Plain → ℕ → Session → Plain
with_session st k s = record st { sessions = slice_set st.sessions (k - 1) s }

-- a list without these names
abbrev pub without_names : List (List ℕ) → List (List ℕ) → List (List ℕ)
without_names names others = filter (λ n. not (list_any (bytes_eq n) names)) others

-- outside a transaction the changes are committed at once, else they wait in the session's work
abbrev pub with_changes : Plain → ℕ → List Change → Plain
with_changes st k changes =
    let s = session st k in
    if s.depth == 0 then record st { journal = Committed k changes ∷ st.journal }
    else with_session st k (record s { work = s.work ++ changes })

-- the session outside a transaction, whose changes are gone
abbrev pub outside : Session → Session
outside s = record s { depth = 0; work = [] }

-- an inner COMMIT takes one off the depth; the transaction's own commits its changes
abbrev pub after_commit : Plain → ℕ → Plain
after_commit st k =
    let s = session st k in
    if nat_le 2 s.depth then with_session st k (record s { depth = s.depth - 1 })
    else record (with_session st k (outside s)) { journal = Committed k s.work ∷ st.journal }

-- a COMMIT for which there was no memory, or whose log failed, ends the transaction without its changes; its other
-- refusal has no effect
abbrev pub uncommitted : Plain → ℕ → Message → Plain
uncommitted st k m = if m.number == NO_MEMORY || m.number == LOG_FAILED then with_session st k (outside (session st k)) else st

-- nobody knows whether these names are on the volume
abbrev pub with_doubt : Plain → List (List ℕ) → Plain
with_doubt st names = record st { on_volume = without_names names st.on_volume; in_doubt = names ++ st.in_doubt }

-- the snapshot is no longer there, and its copy is forgotten
abbrev pub without_snap : Plain → List ℕ → Plain
without_snap st snap = record st { journal = Dropped snap ∷ st.journal; snaps = filter (λ s. not (bytes_eq s.name snap)) st.snaps }

-- the snapshot that a session is making, if any, is dropped
abbrev pub without_made : Plain → Option (List ℕ) → Plain
without_made st None = st
without_made st (Some snap) = without_snap st snap

-- A refusal of CREATE DATABASE has no effect, but where its files failed: then the snapshot isn't there, and nobody
-- knows whether its files are.
abbrev pub unmade : Plain → ℕ → List (List ℕ) → Message → Plain
unmade st k names m = if m.number == FILE_FAILED then with_doubt (without_made st (session st k).making) names else st

-- the snapshot is dropped, and its files are off the volume
abbrev pub dropped : Plain → List ℕ → Plain
dropped st d = record (without_snap st d) { on_volume = without_names (files_of st d) st.on_volume }

-- A refusal of DROP DATABASE has no effect, but where a file wasn't removed: the snapshot is dropped all the same, and
-- nobody knows whether its files are there.
abbrev pub undropped : Plain → List ℕ → Message → Plain
undropped st d m = if m.number == FILE_NOT_REMOVED then with_doubt (without_snap st d) (files_of st d) else st

-- the source is reverted
abbrev pub reverted : Plain → List ℕ → Plain
reverted st snap = record st { journal = Reverted snap ∷ st.journal }

-- the effect of a statement's own on the tables and the session; a refusal has none, but for these three
abbrev pub effect : Plain → ℕ → Option Stmt → Reply → Plain
effect st k (Some (CreateSnap snap files of)) (Msg m) = unmade st k (sparse_names files) m
effect st k (Some Commit) (Msg m) = uncommitted st k m
effect st k (Some (DropDb d)) (Msg m) = undropped st d m
effect st k stmt (Msg m) = st
effect st k (Some (UseDb d)) reply = let s = session st k in with_session st k (record s { current = d })
effect st k (Some BeginTran) reply = let s = session st k in with_session st k (record s { depth = s.depth + 1 })
effect st k (Some Commit) reply = after_commit st k
effect st k (Some Rollback) reply = with_session st k (outside (session st k))
effect st k (Some (SetLevel level)) reply = let s = session st k in with_session st k (record s { level = level })
effect st k (Some (DropDb d)) reply = dropped st d
effect st k (Some (Restore d snap)) reply = reverted st snap
effect st k (Some (CreateTable name cols)) reply = with_changes st k (change_and_reply (CreateTable name cols) (see st k)).0
effect st k (Some (DropTable name)) reply = with_changes st k (change_and_reply (DropTable name) (see st k)).0
effect st k (Some (Insert i)) reply = with_changes st k (change_and_reply (Insert i) (see st k)).0
effect st k (Some (Update u)) reply = with_changes st k (change_and_reply (Update u) (see st k)).0
effect st k (Some (Delete d)) reply = with_changes st k (change_and_reply (Delete d) (see st k)).0
effect st k stmt reply = st
