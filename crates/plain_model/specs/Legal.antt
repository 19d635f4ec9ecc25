-- Which event may come in a state, and where it leads: legal histories.
use Rattle.std.specs.Prelude.{ℕ, ◌+◌, ◌≤◌, ◌≡◌, ◌⊎◌, true, false, ◌==◌, ◌&&◌, not, if◌then◌else◌, List, [], ◌∷◌, ◌++◌, map, Option, Some, None, unwrap_or, IsTrue}
use Rattle.std.specs.Str.{bytes_eq}
use Rattle.plain_model.specs.declared.stmt.Stmt.{Stmt}
use Rattle.plain_model.specs.declared.stmt.Stmt.TheVariants.{CreateSnap}
use Rattle.plain_model.specs.declared.event.Event.{Event}
use Rattle.plain_model.specs.declared.event.Event.TheVariants.{Locked, CutAt, RestoreAt, Turned, Said, Left}
use Rattle.plain_model.specs.Journal.{Opening, Cut}
use Rattle.plain_model.specs.State.{Plain, Session, Snap, session, stmt_of, is_session, is_snap, is_suspect, master, start}
use Rattle.plain_model.specs.Keeping.{kept_locks, with_gain}
use Rattle.plain_model.specs.Next.{Replies, Wants, Cuts, Restores, sparse_names, next}
use Rattle.plain_model.specs.Free.{IsFree}
pub use Rattle.plain_model.specs.Effects.{with_session, without_names, with_changes, outside, after_commit, uncommitted, with_doubt, without_snap, without_made, unmade, dropped, undropped, reverted, effect}

-- one more event has come
abbrev pub counted : Plain → Plain
counted st = record st { moment = st.moment + 1 }

-- the session's statement has its first event now, if it had none
abbrev pub with_first : Plain → Session → Session
with_first st s = record s { first = Some (unwrap_or s.first st.moment) }

-- the files of the snapshot that the statement makes
abbrev pub new_names : Option Stmt → List (List ℕ)
new_names (Some (CreateSnap snap files of)) = sparse_names files
new_names _ = []

-- a snapshot is cut: it keeps a copy of the source, and its files are on the volume
abbrev pub after_cut : Plain → ℕ → List ℕ → Plain
after_cut st k snap =
    let names = new_names (stmt_of st k) in
    let s = session st k in
    record (with_session st k (with_first st (record s { making = Some snap }))) {
      journal = Cut snap ∷ st.journal;
      next_cut = st.next_cut + 1;
      snaps = st.snaps ++ (record { name = snap; files = names; cut = st.next_cut; suspect = false }) ∷ [];
      on_volume = names ++ st.on_volume;
      in_doubt = without_names names st.in_doubt;
    }

abbrev pub turned : List ℕ → Snap → Snap
turned snap s = if bytes_eq s.name snap then record s { suspect = true } else s

-- the restoring of session k is over
abbrev pub without_restoring : ℕ → Option (ℕ × List ℕ) → Option (ℕ × List ℕ)
without_restoring k None = None
without_restoring k (Some r) = if r.0 == k then None else Some r

-- a reply ends the making and the restoring of its session, and frees locks
abbrev pub answered : Plain → ℕ → ℕ → Plain
answered st k number =
    let s = session st k in
    record (with_session st k (record s { said = number; making = None; locks = kept_locks s; gained = []; since = st.moment + 1; first = None })) {
      restoring = without_restoring k st.restoring;
    }

-- the state after an event
abbrev pub after : Plain → Event → Plain
after st (Locked who table mode) =
    let s = session st who.0 in
    counted (with_session st who.0 (with_first st (record s { locks = (table, mode) ∷ s.locks; gained = with_gain table mode s.gained })))
after st (CutAt who snap) = counted (after_cut st who.0 snap)
after st (RestoreAt who snap) =
    let s = session st who.0 in
    counted (record (with_session st who.0 (with_first st s)) { restoring = Some (who.0, snap) })
after st (Turned snap) = counted (record st { snaps = map (turned snap) st.snaps })
after st (Said who number began reply) = counted (answered (effect st who.0 (stmt_of st who.0) reply) who.0 number)
after st (Left who) =
    let s = session st who.0 in
    counted (with_session st who.0 (record s { current = master; depth = 0; work = []; locks = []; gained = []; gone = true }))

-- the statement began after the session's last reply, and not after its own first event
abbrev pub MayHaveBegun : Plain → ℕ → ℕ → Type 0
MayHaveBegun st k began = ((session st k).since ≤ began) × (began ≤ unwrap_or (session st k).first st.moment)

-- which event may come in this state
abbrev pub MayCome : Plain → Event → Type 0
MayCome st (Locked who table mode) = IsTrue (is_session st who.0) × (next st who.0 ≡ Wants table mode)
MayCome st (CutAt who snap) = IsTrue (is_session st who.0) × (next st who.0 ≡ Cuts snap)
MayCome st (RestoreAt who snap) = IsTrue (is_session st who.0) × (next st who.0 ≡ Restores snap)
MayCome st (Turned snap) = IsTrue (is_snap st snap && not (is_suspect st snap))
MayCome st (Said who number began reply) =
    IsTrue (is_session st who.0) × (number ≡ (session st who.0).said + 1) × MayHaveBegun st who.0 began × ((next st who.0 ≡ Replies reply) ⊎ IsFree st who.0 (stmt_of st who.0) reply)
MayCome st (Left who) = IsTrue (is_session st who.0) × (stmt_of st who.0 ≡ None) × ((session st who.0).gone ≡ false)

-- the events may come one after the other
abbrev pub LegalFrom : Plain → List Event → Type 0
LegalFrom st [] = Unit {0}
LegalFrom st (e ∷ es) = MayCome st e × LegalFrom (after st e) es

-- the state that they lead to
abbrev pub end_from : Plain → List Event → Plain
end_from st [] = st
end_from st (e ∷ es) = end_from (after st e) es

-- the history is legal from the opening on
abbrev pub Legal : Opening → List (List Stmt) → List Event → Type 0
Legal opening scripts book = LegalFrom (start opening scripts) book

-- the state that the history leads to
abbrev pub end : Opening → List (List Stmt) → List Event → Plain
end opening scripts book = end_from (start opening scripts) book
