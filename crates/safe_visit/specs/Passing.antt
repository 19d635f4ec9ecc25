-- The step that passes an allocation page which tells of no free page: its claim goes on with the next one.
use Rattle.std.specs.Prelude.{ℕ, ◌≡◌, ◌≢◌, ◌+◌, None}
use Rattle.page_base.specs.declared.numbers.PageId.{PageId}
use Rattle.page_fmt.specs.Content.{content}
use Rattle.latch_book.specs.declared.latch.LatchMode.TheVariants.{Ex}
use Rattle.latch_book.specs.Latches.{without_latch}
use Rattle.alloc_pages.specs.Owners.{owner_at}
use Rattle.buf_pool.specs.Pool.{without_pin}
use Rattle.buf_pool.specs.Steps.{SameShown}
use Rattle.snap_pages.specs.Shown.{img, pins}
use Rattle.snap_pages.specs.Steps.{SameSnaps, SamePlaces}
use Rattle.snap_pages.specs.Views.{KeepsViews}
use Rattle.step_words.specs.declared.point.Point.TheVariants.{Claim}
use Rattle.step_words.specs.Seats.{Seated, Free, Fetched}
use Rattle.step_state.specs.State.{State, sess, seat}
use Rattle.step_state.specs.Moving.{MovesSeat}

abbrev pub seat_passed : Seated → Seated
seat_passed x = record x { hold = Free; alloc = x.alloc + 1 }

pub record DoesPass (e s : State) (k : ℕ) : Type 0 where
  pub page : PageId
  pub owner : ℕ
  pub at : (seat e k).sitting.point ≡ Claim owner
  pub hold : (seat e k).hold ≡ Fetched page Ex
  pub unmarked : (seat e k).copied ≡ None
  pub full : (slot : ℕ) → owner_at (content (img e.pages page)) slot ≢ 0
  pub moves : MovesSeat e s k (seat_passed (seat e k))
  -- the latch and the pin are given back
  pub latches : s.latches ≡ without_latch e.latches (sess k)
  pub unpinned : pins s.pages ≡ without_pin (pins e.pages) page
  pub shown : SameShown e.pages.pool s.pages.pool
  pub snaps : SameSnaps e.pages s.pages
  pub places : SamePlaces e.pages s.pages
  pub views : KeepsViews e.pages s.pages
