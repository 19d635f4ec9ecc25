-- The step of the flusher: one dirty page is written, which no session sees.
use Rattle.std.specs.Prelude.{◌≡◌}
use Rattle.buf_pool.specs.Steps.{Stays}
use Rattle.snap_pages.specs.Steps.{SameSnaps, SamePlaces}
use Rattle.snap_pages.specs.Views.{KeepsViews}
use Rattle.step_state.specs.State.{State}

pub record DoesFlush (e s : State) : Type 0 where
  pub pool : Stays e.pages.pool s.pages.pool
  pub snaps : SameSnaps e.pages s.pages
  pub places : SamePlaces e.pages s.pages
  pub views : KeepsViews e.pages s.pages
  pub latches : s.latches ≡ e.latches
  pub locks : s.locks ≡ e.locks
  pub seats : s.seats ≡ e.seats
  pub events : s.events ≡ e.events
  pub fixed : s.fixed ≡ e.fixed
