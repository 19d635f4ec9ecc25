-- The step that takes in what stands on a page, and gives the page back.
use Rattle.std.specs.Prelude.{ℕ, ◌≡◌, ◌⊎◌, Bool, true, false, List, Some}
use Rattle.page_base.specs.declared.numbers.PageId.{PageId}
use Rattle.page_fmt.specs.Content.{content, IsPage}
use Rattle.latch_book.specs.declared.latch.LatchMode.TheVariants.{Sh}
use Rattle.latch_book.specs.Latches.{without_latch}
use Rattle.buf_pool.specs.Steps.{SameShown}
use Rattle.snap_pages.specs.Shown.{Shown, img}
use Rattle.snap_pages.specs.Steps.{SameSnaps, SamePlaces}
use Rattle.snap_pages.specs.Views.{KeepsViews}
use Rattle.stmt_course.specs.Keeping.{IsCourse}
use Rattle.step_words.specs.declared.point.Point.TheVariants.{Take}
use Rattle.step_words.specs.declared.stage.DbKind.TheVariants.{Source, Snap}
use Rattle.step_words.specs.Courses.{Course}
use Rattle.step_words.specs.Seats.{Seated, Free, Latched, Fetched}
use Rattle.step_state.specs.State.{State, sess, seat}
use Rattle.step_state.specs.Moving.{MovesSeat, MovesPins}
use Rattle.step_state.specs.Going.{page_visited, seat_going}
use Rattle.stmt_prog.specs.Feeding.{TakesOn}

-- the bytes that it takes in: of the page in memory, or of a snapshot's own copy that it has read
pub data TakesFrom (v : Shown) (x : Seated) (c : Course) (p : PageId) : List ℕ → Type 0 where
  FromMemory : x.hold ≡ Fetched p Sh → (c.at ≡ Source) ⊎ (x.sitting.found ≡ false) → TakesFrom v x c p (img v p)
  FromCopy : x.hold ≡ Latched p Sh → c.at ≡ Snap → x.sitting.found ≡ true → TakesFrom v x c p x.image

pub record DoesTake (e s : State) (k : ℕ) : Type 0 where
  pub page : PageId
  pub rows : Bool
  pub at : (seat e k).sitting.point ≡ Take page rows
  pub course : Course
  pub has : (seat e k).sitting.course ≡ Some course
  pub is : IsCourse course
  pub visits : page_visited course.stage ≡ Some page
  pub bytes : List ℕ
  pub from : TakesFrom e.pages (seat e k) course page bytes
  pub whole : IsPage bytes
  -- the course goes on with the page's slots
  pub next : Course
  pub takes : TakesOn course next (content bytes)
  pub moves : MovesSeat e s k (record (seat_going (seat e k) next) { hold = Free })
  -- latch and pin are given back, and no page changes
  pub latches : s.latches ≡ without_latch e.latches (sess k)
  pub pinned : MovesPins e.pages s.pages (seat e k) (record (seat_going (seat e k) next) { hold = Free })
  pub shown : SameShown e.pages.pool s.pages.pool
  pub snaps : SameSnaps e.pages s.pages
  pub places : SamePlaces e.pages s.pages
  pub views : KeepsViews e.pages s.pages
