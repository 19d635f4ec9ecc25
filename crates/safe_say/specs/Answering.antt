-- What an answer leaves of a session: where it stands then, and which locks it keeps.
use Rattle.std.specs.Prelude.{ℕ, ◌≡◌, ◌+◌, ◌-◌, ◌==◌, ◌&&◌, ◌||◌, not, if◌then◌else◌, Bool, List, [], ◌∷◌, ◌++◌, filter, find, length, Option, Some, None, option_map}
use Rattle.std.specs.List.{list_any}
use Rattle.std.specs.Str.{bytes_eq}
use Rattle.page_base.specs.declared.numbers.SessNo.{SessNo}
use Rattle.page_base.specs.declared.numbers.TableNo.{TableNo}
use Rattle.lock_book.specs.Locks.{Locks, without_locks}
use Rattle.lock_book.specs.declared.lock.Lock.{Lock}
use Rattle.plain_model.specs.declared.event.Event.TheVariants.{Said}
use Rattle.plain_model.specs.declared.reply.Reply.{Reply}
use Rattle.plain_model.specs.declared.reply.Reply.TheVariants.{Ok, Msg}
use Rattle.plain_model.specs.declared.reply.TheConstants.Message.{NO_MEMORY, LOG_FAILED}
use Rattle.plain_model.specs.declared.stmt.Stmt.{Stmt}
use Rattle.plain_model.specs.declared.stmt.Stmt.TheVariants.{UseDb, BeginTran, Commit, Rollback, SetLevel}
use Rattle.plain_model.specs.declared.stmt.Level.{Level}
use Rattle.plain_model.specs.declared.stmt.Level.TheVariants as levels
use Rattle.plain_model.specs.Keeping.{is_shared}
use Rattle.plain_model.specs.Legal.{MayCome}
use Rattle.snap_cat.specs.Catalog.{Snap, Catalog}
use Rattle.step_words.specs.declared.point.Point.TheVariants.{Start}
use Rattle.step_words.specs.Sittings.{Sitting}
use Rattle.step_words.specs.Seats.{Seated, with_seat}
use Rattle.step_state.specs.State.{State, IsSession, sess, machine}

-- LOCKS

-- a session's lock on a table, but not on the table of tables
abbrev pub is_on_table : SessNo → Lock → Bool
is_on_table who lock = lock.who.0 == who.0 && not (lock.table.0 == 0)

-- its lock in S, which its statement gained
abbrev pub was_gained : List TableNo → SessNo → Lock → Bool
was_gained gained who lock = lock.who.0 == who.0 && (is_shared lock.mode && list_any (λ (t : TableNo). t.0 == lock.table.0) gained)

abbrev pub without_tables : List TableNo → SessNo → Locks → Locks
without_tables gained who locks = filter (λ (l : Lock). not (is_on_table who l && was_gained gained who l)) locks

-- the table of tables goes where no table of the session's is left
abbrev pub without_all : List TableNo → SessNo → Locks → Locks
without_all gained who locks = if list_any (is_on_table who) locks then locks else filter (λ (l : Lock). not (was_gained gained who l)) locks

abbrev pub kept_at : Level → List TableNo → SessNo → Locks → Locks
kept_at levels.Serial gained who locks = locks
kept_at levels.Committed gained who locks = without_all gained who (without_tables gained who locks)

-- none is kept outside a transaction
abbrev pub kept_locks : ℕ → Level → List TableNo → SessNo → Locks → Locks
kept_locks depth level gained who locks = if depth == 0 then without_locks locks who else kept_at level gained who locks

-- THE SITTING

-- the cut of the snapshot of this name
abbrev pub cut_named : Catalog → List ℕ → Option ℕ
cut_named cat name = option_map (λ (s : Snap). s.cut) (find (λ (s : Snap). bytes_eq s.name name) cat.snaps)

-- what a statement with this reply does to its session; a COMMIT that finds no memory or whose log fails ends the transaction
abbrev pub moved : Catalog → Option Stmt → Reply → Sitting → Sitting
moved cat (Some (UseDb d)) Ok s = record s { current = d; within = cut_named cat d }
moved cat (Some BeginTran) Ok s = record s { depth = s.depth + 1 }
moved cat (Some Commit) Ok s = record s { depth = s.depth - 1 }
moved cat (Some Rollback) Ok s = record s { depth = 0 }
moved cat (Some (SetLevel level)) Ok s = record s { level = level }
moved cat (Some Commit) (Msg m) s = if m.number == NO_MEMORY || m.number == LOG_FAILED then record s { depth = 0 } else s
moved cat stmt reply s = s

-- the session stands before its next statement
abbrev pub sitting_said : Sitting → Sitting
sitting_said s = record s { said = s.said + 1; point = Start; course = None; waiting = None }

-- its records are those of earlier statements now
abbrev pub seat_said : Catalog → Option Stmt → Reply → Seated → Seated
seat_said cat stmt reply x = record x { sitting = sitting_said (moved cat stmt reply x.sitting); base = length x.work.recs; alloc = 0; copied = None; making = None; gained = []; gathered = [] }

-- Session k answers its statement with this reply; x is its seat, but for the answer, and the catalog is as it is then. Which
-- records, pins, latches and snapshots go with the answer is said where it is given.
pub record Answers (e s : State) (k : ℕ) (x : Seated) (stmt : Option Stmt) (reply : Reply) : Type 0 where
  pub is : IsSession e k
  pub number : ℕ
  pub comes : MayCome (machine e) (Said (sess k) number x.began reply)
  pub events : s.events ≡ e.events ++ Said (sess k) number x.began reply ∷ []
  pub seats : s.seats ≡ with_seat e.seats k (seat_said s.pages.cat stmt reply x)
  pub locks : s.locks ≡ kept_locks (moved s.pages.cat stmt reply x.sitting).depth (moved s.pages.cat stmt reply x.sitting).level x.gained (sess k) e.locks
  pub fixed : s.fixed ≡ e.fixed
