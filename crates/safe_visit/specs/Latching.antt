-- The step that takes the latch which a session needs next.
use Rattle.std.specs.Prelude.{ℕ, ◌≡◌, ◌%◌, Bool, true, false, List, [], ◌∷◌, ◌++◌, Some}
use Rattle.page_base.specs.declared.numbers.PageId.{PageId}
use Rattle.latch_book.specs.declared.latch.LatchMode.{LatchMode}
use Rattle.latch_book.specs.declared.latch.LatchMode.TheVariants.{Sh, Ex}
use Rattle.latch_book.specs.Latches.{IsFree, with_latch}
use Rattle.rec_log.specs.Records.{Record}
use Rattle.snap_pages.specs.Cuts.{owed_by}
use Rattle.snap_pages.specs.Shown.{Shown}
use Rattle.step_words.specs.declared.point.Point.{Point}
use Rattle.step_words.specs.declared.point.Point.TheVariants.{Latch, Look, Fetch, Claim, Undo, Heal}
use Rattle.step_words.specs.declared.stage.DbKind.TheVariants.{Source, Snap}
use Rattle.step_words.specs.Courses.{Course}
use Rattle.step_words.specs.Seats.{Seated, Free, Latched}
use Rattle.step_state.specs.State.{State, sess, seat}
use Rattle.step_state.specs.Posed.{IsNextEdit}
pub use Rattle.step_state.specs.Going.{page_visited}
use Rattle.step_state.specs.Moving.{MovesSeat}

-- the page of the last of these records
pub record IsLastPage (records : List Record) (p : PageId) : Type 0 where
  pub front : List Record
  pub last : Record
  pub are : records ≡ front ++ last ∷ []
  pub page : last.page ≡ p

-- A session needs this latch, and goes on so: to read a page of the source, which it brings in at once; to read one of a
-- snapshot, for which it first looks; to edit one, to claim on an allocation page, to take its last record back, or to heal the
-- snapshot that it makes.
pub data NeedsLatch (v : Shown) (x : Seated) (p : PageId) : LatchMode → Point → Type 0 where
  VisitsSource : (c : Course) → x.sitting.point ≡ Latch p false → x.sitting.course ≡ Some c → c.at ≡ Source → page_visited c.stage ≡ Some p → NeedsLatch v x p Sh (Fetch p)
  VisitsSnap : (c : Course) → x.sitting.point ≡ Latch p false → x.sitting.course ≡ Some c → c.at ≡ Snap → page_visited c.stage ≡ Some p → NeedsLatch v x p Sh (Look p)
  Edits : (c : Course) → x.sitting.point ≡ Latch p true → x.sitting.course ≡ Some c → IsNextEdit c p → NeedsLatch v x p Ex (Fetch p)
  Claims : (owner : ℕ) → x.sitting.point ≡ Claim owner → p.page % 1280 ≡ 0 → NeedsLatch v x p Ex (Claim owner)
  Undoes : (all : Bool) → x.sitting.point ≡ Undo all → IsLastPage x.work.recs p → NeedsLatch v x p Ex (Undo all)
  Heals : (cut : ℕ) → x.sitting.point ≡ Heal → x.making ≡ Some cut → IsLastPage (owed_by v cut) p → NeedsLatch v x p Ex Heal

abbrev pub seat_latched : Seated → PageId → LatchMode → Point → Seated
seat_latched x p mode next = record x { sitting = record x.sitting { point = next }; hold = Latched p mode }

-- it holds none, and no other session's latch is in the way
pub record DoesLatch (e s : State) (k : ℕ) : Type 0 where
  pub page : PageId
  pub mode : LatchMode
  pub next : Point
  pub needs : NeedsLatch e.pages (seat e k) page mode next
  pub free : (seat e k).hold ≡ Free
  pub granted : IsFree e.latches (sess k) page mode
  pub moves : MovesSeat e s k (seat_latched (seat e k) page mode next)
  pub pages : s.pages ≡ e.pages
  pub latches : s.latches ≡ with_latch e.latches (sess k) page mode
