-- The plain machine's states around one session's statement.
use Rattle.std.specs.Prelude.{ℕ, ◌≡◌, ◌≢◌, ◌+◌, ◌-◌, Bool, true, false, ◌==◌, ◌&&◌, List, [], ◌∷◌, ◌++◌, length, slice_set, slice_index_or, Option, Some, None, IsTrue}
use Rattle.std.specs.List.{list_any}
use Rattle.std.specs.Str.{bytes_eq}
use Rattle.page_base.specs.declared.numbers.SessNo.{SessNo}
use Rattle.plain_model.specs.declared.stmt.Stmt.{Stmt}
use Rattle.plain_model.specs.declared.stmt.Stmt.TheVariants.{UseDb, CreateTable, DropTable, Insert, Update, Delete, BeginTran, Commit, Rollback, LockTimeoutZero, SetLevel, CreateSnap, DropDb, Restore}
use Rattle.plain_model.specs.declared.event.Event.{Event}
use Rattle.plain_model.specs.declared.event.Event.TheVariants.{Locked, Said}
use Rattle.plain_model.specs.declared.reply.Reply.{Reply}
use Rattle.plain_model.specs.declared.reply.Reply.TheVariants.{Msg}
use Rattle.plain_model.specs.declared.event.LockName.{LockName}
use Rattle.plain_model.specs.declared.event.LockName.TheVariants.{All, Table}
use Rattle.plain_model.specs.declared.reply.TheConstants.Message.{FILE_FAILED, NOT_BUILT}
use Rattle.page_base.specs.declared.numbers.Mode.TheVariants.{S}
use Rattle.plain_model.specs.Tables.{Tables, apply}
use Rattle.plain_model.specs.Journal.{Opening, Entry}
use Rattle.plain_model.specs.State.{Plain, Session, Snap, fresh_session, is_session}
use Rattle.plain_model.specs.Messages.{plain}
use Rattle.plain_model.specs.Meaning.{change_and_reply}
use Rattle.plain_model.specs.Keeping.{with_gain}
use Rattle.plain_model.specs.Legal.{LegalFrom, end_from}
use Rattle.early_engine.specs.Ready.{Locks, reply_of}
use Rattle.early_engine.specs.declared.answer.Answer.{Answer}
use Rattle.early_engine.specs.declared.answer.Answer.TheVariants.{AtOnce, UnderAll, UnderTable}

abbrev pub number : ℕ → SessNo
number k = record { 0 = k }

-- session k between two statements
abbrev pub idle : ℕ → List ℕ → Bool → ℕ → Session
idle said current gone since = record fresh_session { said = said; current = current; gone = gone; since = since }

-- the names of these locks that are held in S
abbrev pub gained_in : Locks → List LockName
gained_in [] = []
gained_in (l ∷ ls) = with_gain l.0 l.1 (gained_in ls)

-- session k in the midst of a statement
abbrev pub busy : ℕ → List ℕ → Bool → ℕ → Locks → Option ℕ → Option (List ℕ) → Session
busy said current gone since locks first making = record (idle said current gone since) { locks = locks; gained = gained_in locks; first = first; making = making }

-- the machine with another session k, another journal and other snapshots, at another moment
abbrev pub mid : Plain → ℕ → Session → List Entry → List Snap → ℕ → Plain
mid st k s journal snaps moment = record st { sessions = slice_set st.sessions (k - 1) s; journal = journal; snaps = snaps; moment = moment }

-- the locks of an answer, as events
abbrev pub lock_events : ℕ → Answer → List Event
lock_events k (AtOnce reply) = []
lock_events k (UnderAll mode reply) = Locked (number k) All mode ∷ []
lock_events k (UnderTable name mode reply) = Locked (number k) All S ∷ Locked (number k) (Table name) mode ∷ []

-- the moment of the statement's first event, if there was one before its reply
abbrev pub first_of : Answer → ℕ → Option ℕ
first_of (AtOnce reply) moment = None
first_of (UnderAll mode reply) moment = Some moment
first_of (UnderTable name mode reply) moment = Some moment

-- the tables and the current database after the reply
abbrev pub tables_after : Stmt → Reply → Tables → Tables
tables_after stmt (Msg message) tables = tables
tables_after (CreateTable name cols) reply tables = apply (change_and_reply (CreateTable name cols) tables).0 tables
tables_after (Insert i) reply tables = apply (change_and_reply (Insert i) tables).0 tables
tables_after (Update u) reply tables = apply (change_and_reply (Update u) tables).0 tables
tables_after (Delete d) reply tables = apply (change_and_reply (Delete d) tables).0 tables
tables_after stmt reply tables = tables

abbrev pub current_after : Stmt → Reply → List ℕ → List ℕ
current_after stmt (Msg message) current = current
current_after (UseDb name) reply current = name
current_after stmt reply current = current

abbrev pub is_refusal : Reply → Bool
is_refusal (Msg message) = true
is_refusal reply = false

-- The reply has no effect beside those of table statements and USE: it isn't one of CREATE DATABASE, or is a refusal of it
-- that leaves no name in doubt; what isn't built yet is refused for that.
abbrev pub IsPlain : Stmt → Reply → Type 0
IsPlain (CreateSnap snap files of) (Msg m) = (m.number == FILE_FAILED) ≡ false
IsPlain (CreateSnap snap files of) reply = ⊥
IsPlain (DropTable name) reply = reply ≡ Msg (plain NOT_BUILT)
IsPlain BeginTran reply = reply ≡ Msg (plain NOT_BUILT)
IsPlain Commit reply = reply ≡ Msg (plain NOT_BUILT)
IsPlain Rollback reply = reply ≡ Msg (plain NOT_BUILT)
IsPlain LockTimeoutZero reply = reply ≡ Msg (plain NOT_BUILT)
IsPlain (SetLevel level) reply = reply ≡ Msg (plain NOT_BUILT)
IsPlain (DropDb d) reply = reply ≡ Msg (plain NOT_BUILT)
IsPlain (Restore d snap) reply = reply ≡ Msg (plain NOT_BUILT)
IsPlain stmt reply = Unit {0}

-- The machine around session k: it is a session, the run began so, nothing is being reverted, and no other session
-- holds a lock or makes a snapshot.
pub record Around (opening : Opening) (st : Plain) (k : ℕ) : Type 0 where
  pub there : IsTrue (is_session st k)
  pub opened : st.opening ≡ opening
  pub settled : st.restoring ≡ None
  pub others : (i : ℕ) → i + 1 ≢ k → ((slice_index_or st.sessions i fresh_session).locks ≡ []) × ((slice_index_or st.sessions i fresh_session).making ≡ None)

-- no suspect snapshot has this name
abbrev pub is_lost : List Snap → List ℕ → Bool
is_lost snaps d = list_any (λ s. bytes_eq s.name d && s.suspect) snaps

-- events that lead every machine with the one list of snapshots to the other, and change nothing else
pub record Moves (events : List Event) (snaps snaps' : List Snap) : Type 0 where
  pub legal : (st : Plain) → st.snaps ≡ snaps → LegalFrom st events
  pub leads : (st : Plain) → st.snaps ≡ snaps → end_from st events ≡ record st { snaps = snaps'; moment = st.moment + length events }

-- the events of a statement: its locks, what turned meanwhile, and its reply
abbrev pub statement_events : ℕ → ℕ → ℕ → Answer → List Event → List Event
statement_events k n began answer turned = lock_events k answer ++ (turned ++ Said (number k) n began (reply_of answer) ∷ [])
