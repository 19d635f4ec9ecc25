-- A step that meets a refusal: it gives back what it holds, and says the refusal, unless records have to be taken back first.
use Rattle.std.specs.Prelude.{ℕ, ◌≡◌, ◌<◌, IsTrue, length, Some, None, Bool, true, false, [], ◌≢◌}
use Rattle.latch_book.specs.Latches.{without_latch}
use Rattle.plain_model.specs.declared.reply.Message.{Message}
use Rattle.plain_model.specs.declared.reply.Reply.TheVariants.{Msg}
use Rattle.snap_pages.specs.Shown.{Shown, img}
use Rattle.snap_pages.specs.Steps.{SameSnaps, SamePlaces}
use Rattle.snap_pages.specs.Views.{KeepsViews}
use Rattle.step_words.specs.declared.point.Point.{Point}
use Rattle.step_words.specs.declared.point.Point.TheVariants.{Lock, Fetch, Take, Plan as Planning, Claim, Change, Commit, Gather, Swap, Undo}
use Rattle.step_words.specs.Sittings.{stmt_at, ends_work}
use Rattle.step_words.specs.Seats.{Seated, Free}
use Rattle.step_state.specs.State.{State, sess, seat}
use Rattle.step_state.specs.Moving.{MovesSeat, MovesPins}
use Rattle.safe_say.specs.Answering.{Answers}

-- the latch and its pin are given back, also those of gathered pages, and the course is over
abbrev pub seat_refused : Seated → Seated
seat_refused x = record x { sitting = record x.sitting { course = None }; hold = Free; alloc = 0; copied = None; gathered = [] }

-- the refusal waits until the statement's records are taken back, or all that its transaction has where that ends
abbrev pub seat_waiting : Seated → Message → Seated
seat_waiting x m = record (seat_refused x) { sitting = record x.sitting { course = None; point = Undo (ends_work (stmt_at x.sitting)); waiting = Some (Msg m) } }

-- A COMMIT that finds no memory, or whose log fails, takes back all that its transaction has; where it has nothing it answers.
abbrev pub seat_failed : Seated → Message → Seated
seat_failed x m = record x { sitting = record x.sitting { point = Undo true; waiting = Some (Msg m) }; base = 0 }

-- at these points a step may meet a refusal; between copy and mark none does
abbrev pub may_refuse : Point → Bool
may_refuse (Lock table number mode) = true
may_refuse (Fetch page) = true
may_refuse (Take page rows) = true
may_refuse Planning = true
may_refuse (Claim owner) = true
may_refuse (Change page) = true
may_refuse Commit = true
may_refuse Gather = true
may_refuse Swap = true
may_refuse point = false

-- no page changes and no view
pub record LeavesPages (old new : Shown) : Type 0 where
  pub tells : new.pool.files.tells ≡ old.pool.files.tells
  pub images : IsTrue old.pool.files.tells → img new ≡ img old
  pub snaps : SameSnaps old new
  pub places : SamePlaces old new
  pub views : KeepsViews old new

pub data DoesRefuse (e s : State) (k : ℕ) (m : Message) : Type 0 where
  Waits : may_refuse (seat e k).sitting.point ≡ true → (seat e k).copied ≡ None → (seat e k).base < length (seat e k).work.recs → MovesSeat e s k (seat_waiting (seat e k) m) → s.latches ≡ without_latch e.latches (sess k) → LeavesPages e.pages s.pages → MovesPins e.pages s.pages (seat e k) (seat_refused (seat e k)) → DoesRefuse e s k m
  Fails : (seat e k).sitting.point ≡ Commit → (seat e k).sitting.course ≡ None → (seat e k).work.recs ≢ [] → MovesSeat e s k (seat_failed (seat e k) m) → s.pages ≡ e.pages → s.latches ≡ e.latches → DoesRefuse e s k m
  Says : may_refuse (seat e k).sitting.point ≡ true → (seat e k).copied ≡ None → ((seat e k).sitting.point ≡ Commit → (seat e k).work.recs ≡ []) → length (seat e k).work.recs ≡ (seat e k).base → Answers e s k (seat_refused (seat e k)) (stmt_at (seat e k).sitting) (Msg m) → s.latches ≡ without_latch e.latches (sess k) → LeavesPages e.pages s.pages → MovesPins e.pages s.pages (seat e k) (seat_refused (seat e k)) → DoesRefuse e s k m
