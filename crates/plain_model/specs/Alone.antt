-- Statements that are answered as if their transaction ran alone, at the moment of its commit.
use Rattle.std.specs.Prelude.{ℕ, ◌≡◌, ◌≤◌, Bool, true, ◌==◌, List, [], ◌∷◌, ◌++◌, Option, Some, None}
use Rattle.std.specs.List.{list_any}
use Rattle.page_base.specs.declared.numbers.SessNo.{SessNo}
use Rattle.plain_model.specs.declared.stmt.Level.TheVariants as levels
use Rattle.plain_model.specs.declared.stmt.Stmt.{Stmt}
use Rattle.plain_model.specs.declared.stmt.Stmt.TheVariants.{Commit}
use Rattle.plain_model.specs.declared.event.Event.{Event}
use Rattle.plain_model.specs.declared.event.Event.TheVariants.{Said}
use Rattle.plain_model.specs.declared.reply.Message.{Message}
use Rattle.plain_model.specs.declared.reply.TheConstants.Message.{NO_COLUMN, NO_TABLE, NULL_VALUE, KEY_IS_THERE, TABLE_IS_THERE, OVERFLOW, KEY_UPDATE, TYPE_CLASH, TEXT_TOO_LONG, ROW_TOO_LONG, KEY_TOO_LONG}
use Rattle.plain_model.specs.declared.reply.Reply.{Reply}
use Rattle.plain_model.specs.declared.reply.Reply.TheVariants.{Ok, Msg}
use Rattle.plain_model.specs.Tables.{Tables, apply}
use Rattle.plain_model.specs.Journal.{Opening}
use Rattle.plain_model.specs.Meaning.{shape, change_and_reply}
use Rattle.plain_model.specs.State.{Plain, session, stmt_of, committed, see, is_source}
use Rattle.plain_model.specs.Free.{is_of_tables}
use Rattle.plain_model.specs.Legal.{Legal, after, end, end_from}

-- the refusal by shape, or else the reply
abbrev pub or_reply : Option Message → Reply → Reply
or_reply (Some m) reply = Msg m
or_reply None reply = reply

-- the reply that a statement has over these tables: its refusal by shape, else what it comes to
abbrev pub answer : Stmt → Tables → Reply
answer stmt tables = or_reply (shape stmt tables) (change_and_reply stmt tables).1

-- a reply that tells of tables: no refusal, or one by shape or of a row
abbrev pub tells_of_tables : Reply → Bool
tells_of_tables (Msg m) = list_any (λ n. m.number == n) (NO_TABLE ∷ TABLE_IS_THERE ∷ NO_COLUMN ∷ KEY_UPDATE ∷ TYPE_CLASH ∷ OVERFLOW ∷ NULL_VALUE ∷ TEXT_TOO_LONG ∷ ROW_TOO_LONG ∷ KEY_TOO_LONG ∷ KEY_IS_THERE ∷ [])
tells_of_tables reply = true

-- Statement n of session k in a history: its reply, the events before it and those after it.
pub record Told (opening : Opening) (scripts : List (List Stmt)) (book : List Event) (k n : ℕ) : Type 0 where
  pub before : List Event
  pub who : SessNo
  pub began : ℕ
  pub reply : Reply
  pub later : List Event
  pub stmt : Stmt
  pub is : book ≡ before ++ Said who n began reply ∷ later
  pub by : who.0 ≡ k
  pub says : stmt_of (end opening scripts before) k ≡ Some stmt

-- the statement is about the source's tables, and so is its reply
pub record IsOfSource (st : Plain) (k : ℕ) (stmt : Stmt) (reply : Reply) : Type 0 where
  pub about : is_of_tables stmt ≡ true
  pub here : is_source st (session st k).current ≡ true
  pub tells : tells_of_tables reply ≡ true

-- session k is in its transaction before, between and after these events
abbrev pub StaysIn : Plain → ℕ → List Event → Type 0
StaysIn st k [] = 1 ≤ (session st k).depth
StaysIn st k (e ∷ es) = (1 ≤ (session st k).depth) × StaysIn (after st e) k es

-- the event is the reply Ok to the COMMIT that ends session k's transaction
pub data Commits (st : Plain) (k : ℕ) : Event → Type 0 where
  Ends : (who : SessNo) (n began : ℕ) → who.0 ≡ k → stmt_of st k ≡ Some Commit → (session st k).depth ≡ 1 → Commits st k (Said who n began Ok)

-- Behind this state, among these events, session k's transaction commits: after some of them, which leave it open.
pub record IsCommitted (st : Plain) (k : ℕ) (events : List Event) : Type 0 where
  pub amid : List Event
  pub commit : Event
  pub rest : List Event
  pub is : events ≡ amid ++ commit ∷ rest
  pub within : StaysIn st k amid
  pub ends : Commits (end_from st amid) k commit

module _ {opening : Opening} {scripts : List (List Stmt)} {book : List Event} {k n : ℕ} where
  -- the state just before the reply
  abbrev pub asked : Told opening scripts book k n → Plain
  asked t = end opening scripts t.before

  -- the state just after it
  abbrev pub replied : Told opening scripts book k n → Plain
  replied t = after (asked t) (Said t.who n t.began t.reply)

  -- outside a transaction: the reply is that over the source just before it
  abbrev pub IsAloneOutside : Told opening scripts book k n → Type 0
  IsAloneOutside t = (session (asked t) k).depth ≡ 0 → t.reply ≡ answer t.stmt (committed (asked t))

  -- at SERIALIZABLE, in a transaction that commits: it is that over the source just before the commit, with the
  -- transaction's own earlier changes
  abbrev pub IsAloneInside : Told opening scripts book k n → Type 0
  IsAloneInside t =
      (session (asked t) k).level ≡ levels.Serial → (c : IsCommitted (replied t) k t.later) →
      t.reply ≡ answer t.stmt (apply (session (asked t) k).work (committed (end_from (replied t) c.amid)))

  -- whatever the level: it is that over what the session sees at that moment
  abbrev pub IsSeen : Told opening scripts book k n → Type 0
  IsSeen t = t.reply ≡ answer t.stmt (see (asked t) k)

-- in a legal history statements on the source's tables are answered as if their transactions ran alone
abbrev pub AreAlone : Type 0
AreAlone = (opening : Opening) (scripts : List (List Stmt)) (book : List Event) (k n : ℕ) → Legal opening scripts book →
    (t : Told opening scripts book k n) → IsOfSource (asked t) k t.stmt t.reply → IsAloneOutside t × IsAloneInside t

-- and each of them is answered by what its session sees
abbrev pub AreSeen : Type 0
AreSeen = (opening : Opening) (scripts : List (List Stmt)) (book : List Event) (k n : ℕ) → Legal opening scripts book →
    (t : Told opening scripts book k n) → IsOfSource (asked t) k t.stmt t.reply → IsSeen t
