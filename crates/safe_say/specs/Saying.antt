-- The steps that answer: at once, by what a course has found, or once records were taken back.
use Rattle.std.specs.Prelude.{ℕ, ◌≡◌, ◌⊎◌, Some, None, remove, true, false, Bool, List, length, ◌≤◌}
use Rattle.page_base.specs.declared.numbers.SnapNo.{SnapNo}
use Rattle.latch_book.specs.Latches.{without_latch}
use Rattle.buf_pool.specs.Steps.{SameShown}
use Rattle.plain_model.specs.declared.reply.Reply.{Reply}
use Rattle.plain_model.specs.declared.reply.Reply.TheVariants.{Ok, Msg}
use Rattle.plain_model.specs.declared.reply.Message.{Message}
use Rattle.plain_model.specs.declared.reply.TheConstants.Message.{FILE_FAILED}
use Rattle.plain_model.specs.Messages.{plain}
use Rattle.plain_model.specs.declared.stmt.Level.{Level}
use Rattle.plain_model.specs.declared.stmt.Stmt.{Stmt}
use Rattle.plain_model.specs.declared.stmt.Stmt.TheVariants.{UseDb, BeginTran, SetLevel, LockTimeoutZero, Commit as CommitTran, CreateSnap}
use Rattle.snap_cat.specs.Catalog.{without, with_state}
use Rattle.snap_cat.specs.declared.snapshot.SnapState.TheVariants.{Making, Online, Suspect}
use Rattle.snap_pages.specs.Cuts.{place_of, is_sound_by, GoesBy}
use Rattle.snap_pages.specs.Owed.{without_pins_of}
use Rattle.snap_pages.specs.Shown.{Shown, catalog, pins, state_of, owes_of, with_catalog}
use Rattle.snap_pages.specs.Views.{ClosesUp}
use Rattle.step_words.specs.declared.point.Point.TheVariants.{Start, Say, Heal}
use Rattle.step_words.specs.Courses.{Course}
use Rattle.step_words.specs.Sittings.{stmt_at}
use Rattle.step_words.specs.Seats.{Seated, Free}
use Rattle.step_state.specs.State.{State, sess, seat}
use Rattle.safe_say.specs.Answering.{Answers}

-- whether it is a CREATE DATABASE
abbrev pub is_cutting : Stmt → Bool
is_cutting (CreateSnap snap files of) = true
is_cutting stmt = false

-- The reply that waits; else the course's; or that all went well, unless the snapshot in the making has turned suspect: then
-- the plain machine tells which refusal it is.
pub data IsReply (v : Shown) (x : Seated) : Reply → Type 0 where
  Waited : (reply : Reply) → x.sitting.waiting ≡ Some reply → IsReply v x reply
  OfCourse : (c : Course) (reply : Reply) → x.sitting.waiting ≡ None → x.sitting.course ≡ Some c → c.reply ≡ Some reply → IsReply v x reply
  Succeeds : x.sitting.waiting ≡ None → x.sitting.course ≡ None → ((cut : ℕ) → x.making ≡ Some cut → is_sound_by v cut ≡ true) → IsReply v x Ok
  Fails : (cut : ℕ) (m : Message) → x.sitting.waiting ≡ None → x.sitting.course ≡ None → x.making ≡ Some cut → is_sound_by v cut ≡ false → IsReply v x (Msg m)

-- a snapshot is taken out, with what it owes
pub record TakesOut (old new : Shown) (cut : ℕ) (n : SnapNo) : Type 0 where
  pub its : place_of old cut ≡ Some n
  pub cat : catalog new ≡ without (catalog old) n
  pub sets : new.sets ≡ remove old.sets n.0
  pub pinned : pins new ≡ without_pins_of (owes_of old n) (pins old)
  pub shown : SameShown old.pool new.pool
  pub cuts : GoesBy cut old new
  pub views : ClosesUp n old new

-- what becomes of the snapshot in its making: with a success it may be used; one that has turned suspect is refused as that,
-- and taken out
pub data Makes (old new : Shown) (x : Seated) : Reply → Type 0 where
  MakesNone : (reply : Reply) → x.making ≡ None → new ≡ old → Makes old new x reply
  Comes : (cut : ℕ) (n : SnapNo) → x.making ≡ Some cut → place_of old cut ≡ Some n → state_of old n ≡ Making → new ≡ with_catalog old (with_state (catalog old) n Online) → Makes old new x Ok
  Goes : (cut : ℕ) (n : SnapNo) → x.making ≡ Some cut → state_of old n ≡ Suspect → TakesOut old new cut n → Makes old new x (Msg (plain FILE_FAILED))

-- it answers, and gives back a latch that it still holds
pub record DoesSay (e s : State) (k : ℕ) : Type 0 where
  -- where it stands to answer, or heals a snapshot that has turned suspect
  pub at : ((seat e k).sitting.point ≡ Say) ⊎ ((seat e k).sitting.point ≡ Heal)
  pub healing : (seat e k).sitting.point ≡ Heal → (cut : ℕ) (n : SnapNo) → (seat e k).making ≡ Some cut → place_of e.pages cut ≡ Some n → state_of e.pages n ≡ Suspect
  pub reply : Reply
  pub which : IsReply e.pages (seat e k) reply
  pub answers : Answers e s k (record (seat e k) { hold = Free }) (stmt_at (seat e k).sitting) reply
  pub makes : Makes e.pages s.pages (seat e k) reply
  pub latches : s.latches ≡ without_latch e.latches (sess k)

-- A statement that is answered as it begins: with success where it is of the session alone, as USE, BEGIN, SET and an inner
-- COMMIT are; or with a refusal that comes before any page and any lock. CREATE DATABASE is refused by its cut.
pub data IsAtOnce (x : Seated) : Stmt → Reply → Type 0 where
  Uses : (d : List ℕ) → IsAtOnce x (UseDb d) Ok
  Begins : IsAtOnce x BeginTran Ok
  Sets : (level : Level) → IsAtOnce x (SetLevel level) Ok
  SetsTimeout : IsAtOnce x LockTimeoutZero Ok
  CommitsInner : 2 ≤ x.sitting.depth → IsAtOnce x CommitTran Ok
  IsRefused : (stmt : Stmt) (m : Message) → is_cutting stmt ≡ false → IsAtOnce x stmt (Msg m)

-- the history's length is its beginning
pub record DoesAnswer (e s : State) (k : ℕ) (began : ℕ) : Type 0 where
  pub at : (seat e k).sitting.point ≡ Start
  pub stmt : Stmt
  pub has : stmt_at (seat e k).sitting ≡ Some stmt
  pub reply : Reply
  pub once : IsAtOnce (seat e k) stmt reply
  pub noted : began ≡ length e.events
  pub answers : Answers e s k (record (seat e k) { began = began }) (Some stmt) reply
  pub pages : s.pages ≡ e.pages
  pub latches : s.latches ≡ e.latches
