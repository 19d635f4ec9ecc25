-- The step that does a planned statement's next edit.
use Rattle.std.specs.Prelude.{ℕ, ◌≡◌, ◌-◌, ◌==◌, if◌then◌else◌, true, List, [], ◌∷◌, ◌++◌, Some}
use Rattle.page_base.specs.declared.numbers.PageId.{PageId}
use Rattle.latch_book.specs.declared.latch.LatchMode.TheVariants.{Ex}
use Rattle.rec_log.specs.Records.{Record}
use Rattle.buf_pool.specs.Steps.{SameHolds}
use Rattle.snap_pages.specs.Slots.{SetsSlot}
use Rattle.page_tables.specs.Writes.{Write}
use Rattle.step_words.specs.declared.point.Point.{Point}
use Rattle.step_words.specs.declared.point.Point.TheVariants.{Latch, Change, Commit, Say}
use Rattle.step_words.specs.declared.stage.Stage.{Stage}
use Rattle.step_words.specs.declared.stage.Stage.TheVariants.{Edit as Editing, End}
use Rattle.step_words.specs.Courses.{Course, Draft}
use Rattle.step_words.specs.Coming.{draft_write, taken_at}
use Rattle.step_words.specs.Sittings.{Sitting}
use Rattle.step_words.specs.Seats.{Seated, Free, Fetched}
use Rattle.step_state.specs.State.{State, seat, slots_at}
use Rattle.safe_write.specs.Setting.{record_of, SetsPage}

-- what an edit writes, once all pages are claimed
abbrev pub next_write : Course → Draft → Write
next_write c draft = draft_write (taken_at c) draft

-- the statement goes on with these edits; after the last it ends
abbrev pub stage_after : List Draft → Stage
stage_after [] = End
stage_after (draft ∷ drafts) = Editing

abbrev pub course_after : Course → List Draft → Course
course_after c drafts = record c { edits = drafts; stage = stage_after drafts }

-- and so does its session: it takes the next page's latch, or commits or answers
abbrev pub point_after : Sitting → Course → List Draft → Point
point_after s c [] = if s.depth == 0 then Commit else Say
point_after s c (draft ∷ drafts) = Latch (next_write c draft).page true

abbrev pub sitting_after : Sitting → Course → List Draft → Sitting
sitting_after s c drafts = record s { course = Some (course_after c drafts); point = point_after s c drafts }

-- the pin of the page goes over from what it holds to the record
abbrev pub seat_after : Seated → Course → List Draft → Record → Seated
seat_after x c drafts r = record x { sitting = sitting_after x.sitting c drafts; work = record { recs = x.work.recs ++ r ∷ []; spare = x.work.spare - 1 }; hold = Free }

pub record DoesChange (e s : State) (k : ℕ) : Type 0 where
  pub page : PageId
  pub at : (seat e k).sitting.point ≡ Change page
  pub hold : (seat e k).hold ≡ Fetched page Ex
  pub course : Course
  pub has : (seat e k).sitting.course ≡ Some course
  pub draft : Draft
  pub drafts : List Draft
  pub next : course.edits ≡ draft ∷ drafts
  pub on : (next_write course draft).page ≡ page
  -- one slot of the page is set, and the session keeps the record and goes on
  pub sets : SetsPage e s k page (seat_after (seat e k) course drafts (record_of (slots_at e) (next_write course draft)))
  pub slot : SetsSlot e.pages s.pages page (next_write course draft).slot (next_write course draft).bytes
  pub holds : SameHolds e.pages.pool s.pages.pool
