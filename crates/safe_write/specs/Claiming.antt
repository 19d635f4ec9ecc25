-- The step that claims a page for a planned statement: the first free page of which an allocation page tells.
use Rattle.std.specs.Prelude.{ℕ, ◌≡◌, ◌+◌, ◌-◌, true, List, [], ◌∷◌, ◌++◌, Some, length, drop}
use Rattle.page_base.specs.declared.numbers.PageId.{PageId}
use Rattle.page_fmt.specs.Content.{content}
use Rattle.latch_book.specs.declared.latch.LatchMode.TheVariants.{Ex}
use Rattle.alloc_pages.specs.Owners.{IsFirstFree}
use Rattle.alloc_pages.specs.Spots.{spot_of}
use Rattle.rec_log.specs.Records.{Record}
use Rattle.buf_pool.specs.Steps.{SameHolds}
use Rattle.snap_pages.specs.Shown.{counts, img}
use Rattle.snap_pages.specs.Slots.{SetsSlot}
use Rattle.table_walk.specs.Addresses.{IsTarget}
use Rattle.page_tables.specs.Owners.{is_there}
use Rattle.page_tables.specs.Writes.{claim}
use Rattle.step_words.specs.declared.point.Point.{Point}
use Rattle.step_words.specs.declared.point.Point.TheVariants.{Claim}
use Rattle.step_words.specs.declared.stage.Stage.{Stage}
use Rattle.step_words.specs.declared.stage.Stage.TheVariants.{Claim as Claiming}
use Rattle.step_words.specs.Courses.{Course, Draft}
use Rattle.step_words.specs.Sittings.{Sitting}
use Rattle.step_words.specs.Seats.{Seated, Free, Fetched}
use Rattle.step_state.specs.State.{State, seat, slots_at}
use Rattle.safe_write.specs.Setting.{record_of, SetsPage}
use Rattle.safe_write.specs.Changing.{stage_after, point_after}

-- the statement goes on with the claims for these tables, and then with its edits
abbrev pub stage_then : List ℕ → List Draft → Stage
stage_then [] drafts = stage_after drafts
stage_then (number ∷ numbers) drafts = Claiming

abbrev pub course_then : Course → List ℕ → PageId → Course
course_then c numbers p = record c { taken = c.taken ++ p ∷ []; stage = stage_then numbers c.edits }

abbrev pub point_then : Sitting → Course → List ℕ → Point
point_then s c [] = point_after s c c.edits
point_then s c (number ∷ numbers) = Claim (number + 1)

abbrev pub sitting_then : Sitting → Course → List ℕ → PageId → Sitting
sitting_then s c numbers p = record s { course = Some (course_then c numbers p); point = point_then s (course_then c numbers p) numbers }

-- the next claim begins with the first allocation page again
abbrev pub seat_then : Seated → Course → List ℕ → PageId → Record → Seated
seat_then x c numbers p r = record x { sitting = sitting_then x.sitting c numbers p; work = record { recs = x.work.recs ++ r ∷ []; spare = x.work.spare - 1 }; hold = Free; alloc = 0 }

pub record DoesClaim (e s : State) (k : ℕ) : Type 0 where
  -- the allocation page that it holds, and the page that it claims
  pub page : PageId
  pub hold : (seat e k).hold ≡ Fetched page Ex
  pub target : PageId
  pub on : (spot_of target).page ≡ page
  pub there : is_there (counts e.pages) target ≡ true
  pub may_be_named : IsTarget target
  pub first : IsFirstFree (content (img e.pages page)) (spot_of target).slot
  -- for the next table
  pub number : ℕ
  pub at : (seat e k).sitting.point ≡ Claim (number + 1)
  pub course : Course
  pub has : (seat e k).sitting.course ≡ Some course
  pub numbers : List ℕ
  pub next : drop (length course.taken) course.owners ≡ number ∷ numbers
  -- the page's slot tells the new owner, and the session keeps the record and goes on
  pub sets : SetsPage e s k page (seat_then (seat e k) course numbers target (record_of (slots_at e) (claim number target)))
  pub slot : SetsSlot e.pages s.pages page (claim number target).slot (claim number target).bytes
  pub holds : SameHolds e.pages.pool s.pages.pool
