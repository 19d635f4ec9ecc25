-- The engine's state as data: pages and snapshots, latches, locks, what is kept of each session, and the history.
use Rattle.std.specs.Prelude.{ℕ, ◌+◌, ◌≤◌, Bool, List, length}
use Rattle.page_base.specs.declared.numbers.SessNo.{SessNo}
use Rattle.page_base.specs.Slots.{Slots}
use Rattle.plain_model.specs.declared.event.Event.{Event}
use Rattle.plain_model.specs.declared.stmt.Stmt.{Stmt}
use Rattle.plain_model.specs.Journal.{Opening}
use Rattle.plain_model.specs.Legal.{end}
use Rattle.plain_model.specs.State.{Plain}
use Rattle.latch_book.specs.Latches.{Latches}
use Rattle.lock_book.specs.Locks.{Locks}
use Rattle.snap_pages.specs.Shown.{Shown, img}
use Rattle.snap_pages.specs.Slots.{slots_of}
use Rattle.open_work.specs.Open.{Parts, settled, alone, before}
use Rattle.step_words.specs.Seats.{Seated, seat_in}

-- what no step changes: the opening, the scripts, and whether all files tell what they hold
pub record Fixed : Type 0 where
  pub opening : Opening
  pub scripts : List (List Stmt)
  pub told : Bool

pub record State : Type 0 where
  pub fixed : Fixed
  pub pages : Shown
  pub latches : Latches
  pub locks : Locks
  pub seats : List Seated
  pub events : List Event

-- the number of a session
abbrev pub sess : ℕ → SessNo
sess k = record { 0 = k }

-- k is one of the sessions
pub record IsSession (e : State) (k : ℕ) : Type 0 where
  pub first : 1 ≤ k
  pub last : k ≤ length e.seats

abbrev pub seat : State → ℕ → Seated
seat e k = seat_in e.seats k

-- the records of each session, and how many may have some: place 0 is nobody's
abbrev pub works : State → Parts
works e k = (seat e k).work.recs

abbrev pub many : State → ℕ
many e = length e.seats + 1

-- the plain machine to which the history leads
abbrev pub machine : State → Plain
machine e = end e.fixed.opening e.fixed.scripts e.events

-- the slots of all pages as they stand
abbrev pub slots_at : State → Slots
slots_at e = slots_of (img e.pages)

-- what was committed: all open changes taken back
abbrev pub settled_of : State → Slots
settled_of e = settled (many e) (works e) (slots_at e)

-- session k's open changes and no others
abbrev pub alone_of : State → ℕ → Slots
alone_of e k = alone (many e) (works e) k (slots_at e)

-- the same before its present statement
abbrev pub before_of : State → ℕ → Slots
before_of e k = before (many e) (works e) k (seat e k).base (slots_at e)
