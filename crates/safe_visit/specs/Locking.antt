-- The step that takes a lock on the table of tables, or on the statement's own table.
use Rattle.std.specs.Prelude.{ℕ, ◌≡◌, ◌≢◌, Bool, true, false, List, [], ◌∷◌, ◌++◌, Some}
use Rattle.page_base.specs.declared.numbers.Mode.{Mode}
use Rattle.page_base.specs.declared.numbers.Mode.TheVariants.{S, X}
use Rattle.page_base.specs.declared.numbers.TableNo.{TableNo}
use Rattle.lock_book.specs.Locks.{lock_of}
use Rattle.lock_book.specs.Modes.{gains}
use Rattle.lock_book.specs.Taking.{IsFree, after_taking}
use Rattle.page_tables.specs.Owners.{is_there}
use Rattle.plain_model.specs.declared.event.Event.{Event}
use Rattle.plain_model.specs.declared.event.Event.TheVariants.{Locked}
use Rattle.plain_model.specs.declared.event.LockName.{LockName}
use Rattle.plain_model.specs.declared.event.LockName.TheVariants.{All, Table}
use Rattle.plain_model.specs.Legal.{MayCome}
use Rattle.plain_steps.specs.Phases.{first_mode, second_mode}
use Rattle.snap_pages.specs.Shown.{counts}
use Rattle.sys_cat.specs.declared.desc.TableDesc.{TableDesc}
use Rattle.step_words.specs.declared.point.Point.TheVariants.{Lock}
use Rattle.step_words.specs.declared.stage.DbKind.TheVariants.{Source}
use Rattle.step_words.specs.declared.stage.Stage.TheVariants.{AskAll, AskTable}
use Rattle.step_words.specs.Courses.{Course}
use Rattle.step_words.specs.Seats.{Seated, with_seat}
use Rattle.step_state.specs.State.{State, IsSession, sess, seat, machine}
use Rattle.step_state.specs.Going.{root_of, locked, seat_going}

-- what a course asks for: the table of tables, or its own table, whose number isn't that of the table of tables
pub data Asks (c : Course) (table : LockName) (number : TableNo) (mode : Mode) : Type 0 where
  AsksAll : c.stage ≡ AskAll → table ≡ All → number.0 ≡ 0 → mode ≡ first_mode c.stmt → Asks c table number mode
  AsksTable : (d : TableDesc) → c.stage ≡ AskTable → c.desc ≡ Some d → table ≡ Table d.name → number ≡ d.number → number.0 ≢ 0 → second_mode c.stmt ≡ Some mode → Asks c table number mode

-- a lock that is gained in S is noted, and one that is gained is told in the history
abbrev pub gained_with : Bool → Mode → TableNo → List TableNo → List TableNo
gained_with true S number gained = number ∷ gained
gained_with true X number gained = gained
gained_with false mode number gained = gained

abbrev pub told_with : Bool → Event → List Event → List Event
told_with true event events = events ++ event ∷ []
told_with false event events = events

abbrev pub seat_locked : Seated → Course → Bool → Mode → TableNo → Seated
seat_locked x c gained mode number = record (seat_going x (locked c)) { gained = gained_with gained mode number x.gained }

pub record DoesLock (e s : State) (k : ℕ) : Type 0 where
  pub is : IsSession e k
  pub table : LockName
  pub number : TableNo
  pub mode : Mode
  pub at : (seat e k).sitting.point ≡ Lock table number mode
  pub course : Course
  pub has : (seat e k).sitting.course ≡ Some course
  pub source : course.at ≡ Source
  pub asks : Asks course table number mode
  -- nobody is in the way
  pub free : IsFree e.locks (sess k) number mode
  pub gained : Bool
  pub gains_it : gained ≡ gains (lock_of e.locks (sess k) number) mode
  pub comes : gained ≡ true → MayCome (machine e) (Locked (sess k) table mode)
  -- the page that it reads next is there
  pub there : is_there (counts e.pages) (root_of course.desc) ≡ true
  pub locks : s.locks ≡ after_taking e.locks (sess k) number mode
  pub events : s.events ≡ told_with gained (Locked (sess k) table mode) e.events
  pub seats : s.seats ≡ with_seat e.seats k (seat_locked (seat e k) course gained mode number)
  pub pages : s.pages ≡ e.pages
  pub latches : s.latches ≡ e.latches
  pub fixed : s.fixed ≡ e.fixed
