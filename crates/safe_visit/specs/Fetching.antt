-- The steps that bring in the page on which a session holds the latch.
use Rattle.std.specs.Prelude.{ℕ, ◌≡◌, ◌≢◌, ◌⊎◌, Bool, true, false, List, Some, None, IsTrue}
use Rattle.page_base.specs.declared.numbers.PageId.{PageId}
use Rattle.page_base.specs.declared.numbers.SnapNo.{SnapNo}
use Rattle.latch_book.specs.declared.latch.LatchMode.{LatchMode}
use Rattle.latch_book.specs.declared.latch.LatchMode.TheVariants.{Sh, Ex}
use Rattle.latch_book.specs.Latches.{without_latch}
use Rattle.buf_pool.specs.Steps.{PinsOnce}
use Rattle.snap_pages.specs.Cuts.{place_of}
use Rattle.plain_model.specs.declared.reply.Reply.TheVariants.{Msg}
use Rattle.plain_model.specs.declared.reply.TheConstants.Message.{SUSPECT}
use Rattle.plain_model.specs.Messages.{plain}
use Rattle.snap_cat.specs.declared.snapshot.SnapState.TheVariants.{Suspect}
use Rattle.snap_pages.specs.Shown.{set_of, state_of}
use Rattle.snap_pages.specs.Steps.{SameSnaps, SamePlaces, ChangesSet}
use Rattle.snap_pages.specs.Views.{IsKept, KeepsViews, view}
use Rattle.step_words.specs.declared.point.Point.{Point}
use Rattle.step_words.specs.declared.point.Point.TheVariants.{Fetch, Take, Claim, Change, Say}
use Rattle.step_words.specs.declared.stage.DbKind.TheVariants.{Source, Snap}
use Rattle.step_words.specs.declared.stage.Stage.{Stage}
use Rattle.step_words.specs.declared.stage.Stage.TheVariants.{Scan}
use Rattle.step_words.specs.Courses.{Course}
use Rattle.step_words.specs.Seats.{Seated, Free, Latched, Fetched, with_seat}
use Rattle.step_state.specs.State.{State, IsSession, sess, seat}
use Rattle.step_state.specs.Posed.{IsNextEdit}
use Rattle.step_state.specs.Moving.{MovesSeat, TurnsSuspect, SaysTurned}
use Rattle.safe_visit.specs.Latching.{page_visited}

-- whether a course wants the rows of the page that it visits
abbrev pub wants_rows : Stage → Bool
wants_rows (Scan page rows) = rows
wants_rows stage = false

-- What a page of the source is brought in for: to be read, in the source or through a snapshot that has no copy of it; to be
-- edited; or to claim on it.
pub data Fetches (x : Seated) (p : PageId) : LatchMode → Point → Type 0 where
  Reads : (c : Course) → x.sitting.point ≡ Fetch p → x.sitting.course ≡ Some c → page_visited c.stage ≡ Some p → (c.at ≡ Source) ⊎ (x.sitting.found ≡ false) → Fetches x p Sh (Take p (wants_rows c.stage))
  Edits : (c : Course) → x.sitting.point ≡ Fetch p → x.sitting.course ≡ Some c → IsNextEdit c p → Fetches x p Ex (Change p)
  Claims : (owner : ℕ) → x.sitting.point ≡ Claim owner → Fetches x p Ex (Claim owner)

abbrev pub seat_fetched : Seated → PageId → LatchMode → Point → Seated
seat_fetched x p mode next = record x { sitting = record x.sitting { point = next }; hold = Fetched p mode }

-- the page is in memory, and pinned once more
pub record DoesFetch (e s : State) (k : ℕ) : Type 0 where
  pub page : PageId
  pub mode : LatchMode
  pub next : Point
  pub fetches : Fetches (seat e k) page mode next
  pub hold : (seat e k).hold ≡ Latched page mode
  pub moves : MovesSeat e s k (seat_fetched (seat e k) page mode next)
  pub pool : PinsOnce page e.pages.pool s.pages.pool
  pub snaps : SameSnaps e.pages s.pages
  pub places : SamePlaces e.pages s.pages
  pub views : KeepsViews e.pages s.pages
  pub latches : s.latches ≡ e.latches

abbrev pub seat_read : Seated → PageId → Bool → List ℕ → Seated
seat_read x p rows image = record x { sitting = record x.sitting { point = Take p rows }; image = image }

-- the snapshot's own copy of the page is read, which changes no map and no page of the sparse files; nothing is pinned
pub record DoesReadCopy (e s : State) (k : ℕ) : Type 0 where
  pub page : PageId
  pub course : Course
  pub at : (seat e k).sitting.point ≡ Fetch page
  pub has : (seat e k).sitting.course ≡ Some course
  pub snap : course.at ≡ Snap
  pub visits : page_visited course.stage ≡ Some page
  pub found : (seat e k).sitting.found ≡ true
  pub hold : (seat e k).hold ≡ Latched page Sh
  pub cut : ℕ
  pub within : (seat e k).sitting.within ≡ Some cut
  pub place : SnapNo
  pub its : place_of e.pages cut ≡ Some place
  -- what was read is its page, where its view is promised
  pub image : List ℕ
  pub reads : IsKept e.pages place → image ≡ view e.pages place page
  pub only : ChangesSet place e.pages s.pages
  pub map : (set_of s.pages place).map ≡ (set_of e.pages place).map
  pub counts : (set_of s.pages place).files.counts ≡ (set_of e.pages place).files.counts
  pub content : IsTrue (set_of e.pages place).files.tells → (set_of s.pages place).files.content ≡ (set_of e.pages place).files.content
  pub places : SamePlaces e.pages s.pages
  pub views : KeepsViews e.pages s.pages
  pub moves : MovesSeat e s k (seat_read (seat e k) page (wants_rows course.stage) image)
  pub latches : s.latches ≡ e.latches

-- what is left of a course in a snapshot that can't be read: the answer that it is suspect; the latch is given back
abbrev pub seat_lost : Seated → Seated
seat_lost x = record x { sitting = record x.sitting { point = Say; course = None; waiting = Some (Msg (plain SUSPECT)) }; hold = Free }

-- the snapshot's file fails: it turns suspect, unless it is so already
pub data Loses (e s : State) (n : SnapNo) : Type 0 where
  Turns : state_of e.pages n ≢ Suspect → TurnsSuspect e.pages s.pages n → SaysTurned e s n → Loses e s n
  Is : state_of e.pages n ≡ Suspect → ChangesSet n e.pages s.pages → (set_of s.pages n).map ≡ (set_of e.pages n).map → (set_of s.pages n).files.counts ≡ (set_of e.pages n).files.counts → SamePlaces e.pages s.pages → KeepsViews e.pages s.pages
      → s.events ≡ e.events → s.locks ≡ e.locks → s.fixed ≡ e.fixed → Loses e s n

pub record DoesLoseRead (e s : State) (k : ℕ) : Type 0 where
  pub is : IsSession e k
  pub page : PageId
  pub course : Course
  pub at : (seat e k).sitting.point ≡ Fetch page
  pub has : (seat e k).sitting.course ≡ Some course
  pub snap : course.at ≡ Snap
  pub visits : page_visited course.stage ≡ Some page
  pub found : (seat e k).sitting.found ≡ true
  pub hold : (seat e k).hold ≡ Latched page Sh
  pub cut : ℕ
  pub within : (seat e k).sitting.within ≡ Some cut
  pub place : SnapNo
  pub its : place_of e.pages cut ≡ Some place
  pub loses : Loses e s place
  pub seats : s.seats ≡ with_seat e.seats k (seat_lost (seat e k))
  pub latches : s.latches ≡ without_latch e.latches (sess k)
