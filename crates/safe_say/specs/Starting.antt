-- The steps that begin a statement which isn't about tables and isn't answered at once, or begin the end of a session.
use Rattle.std.specs.Prelude.{ℕ, ◌≡◌, ◌+◌, true, List, [], ◌∷◌, ◌++◌, length, Some, None}
use Rattle.plain_model.specs.declared.event.Event.TheVariants.{RestoreAt}
use Rattle.plain_model.specs.declared.stmt.SnapFile.{SnapFile}
use Rattle.plain_model.specs.declared.stmt.Stmt.{Stmt}
use Rattle.plain_model.specs.declared.stmt.Stmt.TheVariants.{Commit as CommitTran, Rollback, CreateSnap, Restore}
use Rattle.plain_model.specs.Legal.{MayCome}
use Rattle.rec_log.specs.Records.{Record}
use Rattle.step_words.specs.declared.point.Point.{Point}
use Rattle.step_words.specs.declared.point.Point.TheVariants.{Start, Undo, Cut, Gather, Commit, Say, Leave}
use Rattle.step_words.specs.Sittings.{stmt_at}
use Rattle.step_words.specs.Seats.{Seated, with_seat}
use Rattle.step_state.specs.State.{State, IsSession, sess, seat, machine}
use Rattle.step_state.specs.Moving.{MovesSeat}

-- all that a transaction has written is taken back, and then the session goes on here
abbrev pub undoing : List Record → Point → Point
undoing [] after = after
undoing (r ∷ rs) after = Undo true

-- a transaction's own COMMIT, a ROLLBACK, and CREATE DATABASE
pub data TurnsTo (x : Seated) : Stmt → Point → Type 0 where
  Ends : x.sitting.depth ≡ 1 → TurnsTo x CommitTran Commit
  Undoes : (depth : ℕ) → x.sitting.depth ≡ depth + 1 → TurnsTo x Rollback (undoing x.work.recs Say)
  Cuts : (snap : List ℕ) (files : List SnapFile) (of : List ℕ) → TurnsTo x (CreateSnap snap files of) Cut

-- what ends a transaction has no records of its own; what undoes it has them all
abbrev pub base_at : Seated → Point → ℕ
base_at x (Undo all) = 0
base_at x point = x.base

abbrev pub seat_turned : Seated → Point → ℕ → Seated
seat_turned x point began = record x { sitting = record x.sitting { point = point }; base = base_at x point; began = began }

pub record DoesTurnTo (e s : State) (k : ℕ) : Type 0 where
  pub at : (seat e k).sitting.point ≡ Start
  pub stmt : Stmt
  pub has : stmt_at (seat e k).sitting ≡ Some stmt
  pub point : Point
  pub turns : TurnsTo (seat e k) stmt point
  pub moves : MovesSeat e s k (seat_turned (seat e k) point (length e.events))
  pub pages : s.pages ≡ e.pages
  pub latches : s.latches ≡ e.latches

-- RESTORE begins with its event, and gathers
pub record DoesRestore (e s : State) (k : ℕ) : Type 0 where
  pub is : IsSession e k
  pub at : (seat e k).sitting.point ≡ Start
  pub source : List ℕ
  pub snap : List ℕ
  pub has : stmt_at (seat e k).sitting ≡ Some (Restore source snap)
  pub comes : MayCome (machine e) (RestoreAt (sess k) snap)
  pub events : s.events ≡ e.events ++ RestoreAt (sess k) snap ∷ []
  pub seats : s.seats ≡ with_seat e.seats k (seat_turned (seat e k) Gather (length e.events))
  pub pages : s.pages ≡ e.pages
  pub latches : s.latches ≡ e.latches
  pub locks : s.locks ≡ e.locks
  pub fixed : s.fixed ≡ e.fixed

-- A session that has no statement left takes back what its transaction has written, and ends. That is the beginning of the
-- latch or the leaving that follows, and no step of its own.
pub record DoesEnd (e s : State) (k : ℕ) : Type 0 where
  pub at : (seat e k).sitting.point ≡ Start
  pub none : stmt_at (seat e k).sitting ≡ None
  pub moves : MovesSeat e s k (seat_turned (seat e k) (undoing (seat e k).work.recs Leave) (length e.events))
  pub pages : s.pages ≡ e.pages
  pub latches : s.latches ≡ e.latches
