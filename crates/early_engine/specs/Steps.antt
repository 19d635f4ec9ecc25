-- One step of a session: what it enters in the history, and what it leaves of the run.
use Rattle.std.specs.Prelude.{ℕ, ◌≡◌, ◌≢◌, ◌⊎◌, ◌+◌, ◌<◌, ◌≤◌, true, false, List, [], ◌∷◌, ◌++◌, length, slice_index_or, slice_set}
use Rattle.std.specs.List.{AllByRecursion, list_any}
use Rattle.page_dev.specs.Faults.{Rose}
use Rattle.plain_model.specs.declared.stmt.Stmt.{Stmt}
use Rattle.plain_model.specs.declared.stmt.Stmt.TheVariants.{Broken}
use Rattle.plain_model.specs.declared.reply.Reply.{Reply}
use Rattle.plain_model.specs.declared.event.Event.{Event}
use Rattle.plain_model.specs.declared.event.Event.TheVariants.{Locked, CutAt, Said, Left}
use Rattle.plain_model.specs.State.{master}
use Rattle.early_engine.specs.declared.seat.Seat.{Seat}
use Rattle.early_engine.specs.Pushing.{IsTurn}
use Rattle.early_engine.specs.Causes.{IsRoomReply, StaysShort, IsVolumeReply, is_failure}
use Rattle.early_engine.specs.Stepping.{number}
use Rattle.early_engine.specs.Safe.{Run, seat_at, script_at}

-- the statement that session i + 1 answers next
abbrev pub next_stmt : Run → ℕ → Stmt
next_stmt e i = slice_index_or (script_at e i) (seat_at e i).said (Broken 0)

-- session i + 1 has a statement left
pub record HasNext (e : Run) (i : ℕ) : Type 0 where
  pub there : i < length e.scripts
  pub more : (seat_at e i).said < length (script_at e i)

-- The run began as it did, over the same volume, with the same scripts. The history only grows; the volume's counts of
-- faults never fall, and where a reply that came says that the volume failed its count rose.
pub record Goes (old new : Run) : Type 0 where
  pub opening : new.opening ≡ old.opening
  pub scripts : new.scripts ≡ old.scripts
  pub told : new.disk.told ≡ old.disk.told
  pub came : List Event
  pub grows : new.kept.events ≡ old.kept.events ++ came
  pub failures : old.disk.failures ≤ new.disk.failures
  pub file_failures : old.disk.file_failures ≤ new.disk.file_failures
  pub blame : list_any is_failure came ≡ true → Rose old.disk.failures new.disk.failures

-- session i + 1 alone moved, and has this seat now
pub record Steps (old new : Run) (i : ℕ) (seat : Seat) : Type 0 where
  pub within : i < length old.seats
  pub goes : Goes old new
  pub seats : new.seats ≡ slice_set old.seats i seat

-- an event in the midst of a statement of session k: a lock that it gained, or the cut of its snapshot
abbrev pub IsOwn : ℕ → Event → Type 0
IsOwn k (Locked who table mode) = who.0 ≡ k
IsOwn k (CutAt who snap) = who.0 ≡ k
IsOwn k event = ⊥

-- Session k's step entered these events, and this one last. Those before it are the session's own, or turns of
-- snapshots whose files' counts of faults rose in the step.
pub record Enters (old new : Run) (k : ℕ) (last : Event) : Type 0 where
  pub amid : List Event
  pub grows : new.kept.events ≡ old.kept.events ++ (amid ++ last ∷ [])
  pub each : AllByRecursion (λ event. IsOwn k event ⊎ IsTurn old.shown new.shown event) amid

-- Session i + 1 answered its next statement. The reply stands last, with the length that the history had when the
-- statement began; that there is no room, or that the volume failed, is said only where it is so, and where there is no
-- room pages and snapshots are as they were.
pub record Says (old new : Run) (i : ℕ) : Type 0 where
  pub next : HasNext old i
  pub here : (seat_at old i).gone ≡ false
  pub current : List ℕ
  pub steps : Steps old new i (record { current = current; said = (seat_at old i).said + 1; gone = false })
  pub reply : Reply
  pub enters : Enters old new (i + 1) (Said (number (i + 1)) ((seat_at old i).said + 1) (length old.kept.events) reply)
  pub room : IsRoomReply old.shown (next_stmt old i) reply
  pub short : StaysShort old.shown new.shown reply
  pub volume : IsVolumeReply old.disk.failures new.disk.failures reply

-- the seats of all other sessions are as they were
abbrev pub AreOthersSame : Run → Run → ℕ → Type 0
AreOthersSame old new i = (j : ℕ) → j ≢ i → seat_at new j ≡ seat_at old j

-- session i + 1 left, having answered all its statements; pages and volume are as they were
pub record Leaves (old new : Run) (i : ℕ) : Type 0 where
  pub there : i < length old.scripts
  pub here : (seat_at old i).gone ≡ false
  pub all : (seat_at old i).said ≡ length (script_at old i)
  pub steps : Steps old new i (record { current = master; said = (seat_at old i).said; gone = true })
  pub enters : new.kept.events ≡ old.kept.events ++ Left (number (i + 1)) ∷ []
  pub shown : new.shown ≡ old.shown
  pub disk : new.disk ≡ old.disk

-- session i + 1 answered its next statement, or left where it had none
abbrev pub Moves : Run → Run → ℕ → Type 0
Moves old new i = Says old new i ⊎ Leaves old new i

-- all sessions have left
abbrev pub HaveLeft : Run → Type 0
HaveLeft e = (i : ℕ) → i < length e.scripts → (seat_at e i).gone ≡ true
