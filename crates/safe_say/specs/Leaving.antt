-- The step with which a session ends: it frees its locks, and is in no database and no transaction.
use Rattle.std.specs.Prelude.{ℕ, ◌≡◌, [], ◌∷◌, ◌++◌, None}
use Rattle.lock_book.specs.Locks.{without_locks}
use Rattle.plain_model.specs.declared.event.Event.TheVariants.{Left}
use Rattle.plain_model.specs.Legal.{MayCome}
use Rattle.plain_model.specs.State.{master}
use Rattle.step_words.specs.declared.point.Point.TheVariants.{Leave, Gone}
use Rattle.step_words.specs.Sittings.{Sitting}
use Rattle.step_words.specs.Seats.{Seated, with_seat}
use Rattle.step_state.specs.State.{State, IsSession, sess, seat, machine}

abbrev pub sitting_left : Sitting → Sitting
sitting_left s = record s { current = master; within = None; depth = 0; course = None; point = Gone; waiting = None }

abbrev pub seat_left : Seated → Seated
seat_left x = record x { sitting = sitting_left x.sitting; work = record { recs = []; spare = 0 }; base = 0; gained = [] }

pub record DoesLeave (e s : State) (k : ℕ) : Type 0 where
  pub is : IsSession e k
  pub at : (seat e k).sitting.point ≡ Leave
  pub comes : MayCome (machine e) (Left (sess k))
  pub seats : s.seats ≡ with_seat e.seats k (seat_left (seat e k))
  pub locks : s.locks ≡ without_locks e.locks (sess k)
  pub events : s.events ≡ e.events ++ Left (sess k) ∷ []
  pub pages : s.pages ≡ e.pages
  pub latches : s.latches ≡ e.latches
  pub fixed : s.fixed ≡ e.fixed
