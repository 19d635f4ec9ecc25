-- The step that commits: the session's records are records no more, its locks are freed, and its statement is answered.
use Rattle.std.specs.Prelude.{ℕ, ◌≡◌, ◌+◌, true, [], ◌∷◌, ◌++◌, Some, None}
use Rattle.plain_model.specs.declared.event.Event.TheVariants.{Said}
use Rattle.plain_model.specs.declared.reply.Reply.{Reply}
use Rattle.plain_model.specs.declared.stmt.Stmt.{Stmt}
use Rattle.plain_model.specs.declared.stmt.Stmt.TheVariants.{Commit as CommitTran}
use Rattle.plain_model.specs.Free.{is_success}
use Rattle.plain_model.specs.Legal.{MayCome}
use Rattle.plain_model.specs.State.{session, stmt_of}
use Rattle.plain_steps.specs.Events.{is_write}
use Rattle.lock_book.specs.Locks.{without_locks}
use Rattle.buf_pool.specs.Steps.{SameShown}
use Rattle.snap_pages.specs.Owed.{without_pins_of}
use Rattle.snap_pages.specs.Shown.{pins}
use Rattle.snap_pages.specs.Steps.{SameSnaps, SamePlaces}
use Rattle.snap_pages.specs.Views.{KeepsViews}
use Rattle.step_words.specs.declared.point.Point.TheVariants.{Start, Commit}
use Rattle.step_words.specs.Sittings.{Sitting}
use Rattle.step_words.specs.Seats.{Seated, with_seat}
use Rattle.step_state.specs.State.{State, IsSession, sess, seat, works, machine}

-- a transaction's own COMMIT, or a write outside a transaction
pub data IsCommitting (depth : ℕ) (stmt : Stmt) : Type 0 where
  Ends : stmt ≡ CommitTran → depth ≡ 1 → IsCommitting depth stmt
  Writes : is_write stmt ≡ true → depth ≡ 0 → IsCommitting depth stmt

-- the session stands before its next statement, outside a transaction
abbrev pub sitting_after : Sitting → Sitting
sitting_after s = record s { said = s.said + 1; point = Start; course = None; depth = 0; waiting = None }

abbrev pub seat_after : Seated → Seated
seat_after x = record x { sitting = sitting_after x.sitting; work = record { recs = []; spare = 0 }; base = 0; alloc = 0; gained = [] }

pub record DoesCommit (e s : State) (k : ℕ) : Type 0 where
  pub is : IsSession e k
  pub at : (seat e k).sitting.point ≡ Commit
  pub stmt : Stmt
  pub has : stmt_of (machine e) k ≡ Some stmt
  pub kind : IsCommitting (session (machine e) k).depth stmt
  -- the plain machine may answer with this success
  pub number : ℕ
  pub reply : Reply
  pub success : is_success reply ≡ true
  pub comes : MayCome (machine e) (Said (sess k) number (seat e k).began reply)
  -- no page changes; the pins of the records go
  pub shown : SameShown e.pages.pool s.pages.pool
  pub snaps : SameSnaps e.pages s.pages
  pub places : SamePlaces e.pages s.pages
  pub views : KeepsViews e.pages s.pages
  pub unpinned : pins s.pages ≡ without_pins_of (works e k) (pins e.pages)
  pub seats : s.seats ≡ with_seat e.seats k (seat_after (seat e k))
  pub latches : s.latches ≡ e.latches
  pub locks : s.locks ≡ without_locks e.locks (sess k)
  pub events : s.events ≡ e.events ++ Said (sess k) number (seat e k).began reply ∷ []
  pub fixed : s.fixed ≡ e.fixed
