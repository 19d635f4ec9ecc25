-- What comes of a statement, by the plain machine.
use Rattle.std.proofs.Common.{◌≡◌, inl, inr, ℕ, true, false, cond, List, [], ◌∷◌, length, refl, ap, ◌∙◌, subst}
use Rattle.std.specs.Prelude.{Some, None, ◌==◌}
use Rattle.std.specs.Str.{bytes_eq}
use Rattle.page_base.specs.declared.column.Column.{Column}
use Rattle.page_base.specs.declared.numbers.Mode.{Mode}
use Rattle.page_base.specs.declared.numbers.Mode.TheVariants.{S, X}
use Rattle.plain_model.specs.declared.stmt.Stmt.{Stmt}
use Rattle.plain_model.specs.declared.stmt.Stmt.TheVariants.{CreateTable, Insert, Select, Update, Delete}
use Rattle.plain_model.specs.declared.stmt.SelectStmt.{SelectStmt}
use Rattle.plain_model.specs.declared.event.LockName.{LockName}
use Rattle.plain_model.specs.declared.event.LockName.TheVariants.{All, Table}
use Rattle.plain_model.specs.declared.reply.Message.{Message}
use Rattle.plain_model.specs.declared.reply.Reply.{Reply}
use Rattle.plain_model.specs.declared.reply.Reply.TheVariants.{Ok, Msg}
use Rattle.plain_model.specs.declared.reply.TheConstants.Message.{BAD_DEFINITION, NOT_BUILT, NO_ROOM}
use Rattle.plain_model.specs.Tables.{apply}
use Rattle.plain_model.specs.Journal.{Opening}
use Rattle.plain_model.specs.State.{Plain, Snap, session, is_suspect, is_source, see, committed}
use Rattle.plain_model.specs.Holding.{holds}
use Rattle.plain_model.specs.Messages.{plain}
use Rattle.plain_model.specs.Meaning.{shape, change_and_reply}
use Rattle.plain_model.specs.Next.{Next, Replies, Wants, unless, unless_shape, under, answers, no_write, next_stmt, next_change, next_of, is_built}
use Rattle.plain_model.specs.Statements.{table_named}
use Rattle.early_engine.specs.Changing.{is_change}
use Rattle.plain_model.specs.Free.{NoRoom, may_grow, is_success}
use Rattle.early_engine.specs.declared.answer.Answer.TheVariants.{AtOnce, UnderAll, UnderTable}
use Rattle.early_engine.specs.Ready.{Locks, Seen, Ready, Comes}
use Rattle.early_engine.proofs.PushLemmas.{bytes_same}

-- UNDER LOCKS

pub not_built : (st : Plain) (k : ℕ) (stmt : Stmt) → is_built stmt ≡ false → next_of st k (Some stmt) ≡ Replies (Msg (plain NOT_BUILT))
not_built st k stmt b = rw b refl

pub built : (st : Plain) (k : ℕ) (stmt : Stmt) → is_built stmt ≡ true → next_of st k (Some stmt) ≡ next_stmt st k stmt
built st k stmt b = rw b refl

module _ (opening : Opening) (current : List ℕ) (seen : Seen) (st : Plain) (k : ℕ) (locks : Locks) (ready : Ready opening current seen st k locks) where
  pub seen_tables : see st k ≡ seen.source
  seen_tables = ap (λ w. apply w (committed st)) ready.work ∙ ready.tables_are

  pub wanted : (name : LockName) (mode : Mode) (next : Next) → holds locks name mode ≡ false → under st k name mode next ≡ Wants name mode
  wanted name mode next h =
      let l : holds (session st k).locks name mode ≡ false = ap (λ ls. holds ls name mode) ready.locks_are ∙ h in
      let q = ready.quiet name mode in
      rw (l, q) refl

  pub had : (name : LockName) (mode : Mode) (next : Next) → holds locks name mode ≡ true → under st k name mode next ≡ next
  had name mode next h =
      let l : holds (session st k).locks name mode ≡ true = ap (λ ls. holds ls name mode) ready.locks_are ∙ h in
      rw l refl

  module _ (here : current ≡ opening.source) where
    pub in_source : is_source st (session st k).current ≡ true
    in_source = ap (λ d. bytes_eq d st.opening.source) (ready.current_is ∙ here) ∙ ap (λ (o : Opening). bytes_eq opening.source o.source) ready.opened ∙ bytes_same opening.source

    pub not_lost : is_suspect st (session st k).current ≡ false
    not_lost = ap (is_suspect st) (ready.current_is ∙ here) ∙ ready.apart

    -- a change of the source isn't refused for where it is
    pub may_write : (next : Next) → unless (no_write st k) next ≡ next
    may_write next = let a = not_lost in let b = in_source in rw (a, b) refl

own_lock : (name : List ℕ) (mode : Mode) (rest : Locks) → holds ((Table name, mode) ∷ rest) (Table name) mode ≡ true
own_lock name S rest = rw (bytes_same name) refl
own_lock name X rest = rw (bytes_same name) refl

shared : (name : List ℕ) (mode : Mode) → holds ((Table name, mode) ∷ (All, S) ∷ []) All S ≡ true
shared name mode = refl

-- A STATEMENT OF A TABLE OF THE SOURCE

-- a statement that first locks all tables in S, and then its own table
pub record IsOfTable (stmt : Stmt) (table : List ℕ) (mode : Mode) : Type 0 where
  pub built : is_built stmt ≡ true
  pub next : (opening : Opening) (current : List ℕ) (seen : Seen) (st : Plain) (k : ℕ) (locks : Locks) → Ready opening current seen st k locks → current ≡ opening.source →
      next_stmt st k stmt ≡ under st k All S (unless_shape (shape stmt seen.source) (under st k (Table table) mode (answers stmt seen.source)))

-- a change of rows is a write of its table
next_change_is : (st : Plain) (k : ℕ) (stmt : Stmt) → is_change stmt ≡ true → next_stmt st k stmt ≡ next_change st k stmt (table_named stmt)
next_change_is st k (Insert i) h = refl
next_change_is st k (Update u) h = refl
next_change_is st k (Delete d) h = refl
next_change_is st k stmt h = absurd (let x : false ≡ true = h in cc)

pub change_built : (stmt : Stmt) → is_change stmt ≡ true → is_built stmt ≡ true
change_built (Insert i) h = refl
change_built (Update u) h = refl
change_built (Delete d) h = refl
change_built stmt h = absurd (let x : false ≡ true = h in cc)

pub change_next : (st : Plain) (k : ℕ) (stmt : Stmt) → is_change stmt ≡ true → next_of st k (Some stmt) ≡ next_change st k stmt (table_named stmt)
change_next st k stmt h = built st k stmt (change_built stmt h) ∙ next_change_is st k stmt h

pub of_change : (stmt : Stmt) → is_change stmt ≡ true → IsOfTable stmt (table_named stmt) X
of_change stmt h = record {
  built = change_built stmt h;
  next = λ opening current seen st k locks ready here.
      next_change_is st k stmt h
      ∙ may_write opening current seen st k locks ready here (under st k All S (unless_shape (shape stmt (see st k)) (under st k (Table (table_named stmt)) X (answers stmt (see st k)))))
      ∙ ap (λ t. under st k All S (unless_shape (shape stmt t) (under st k (Table (table_named stmt)) X (answers stmt t)))) (seen_tables opening current seen st k locks ready);
}

pub of_select : (s : SelectStmt) → is_built (Select s) ≡ true → IsOfTable (Select s) s.table S
of_select s b = record {
  built = b;
  next = λ opening current seen st k locks ready here.
      (let h = in_source opening current seen st k locks ready here in rw h refl)
      ∙ ap (λ t. under st k All S (unless_shape (shape (Select s) t) (under st k (Table s.table) S (answers (Select s) t)))) (seen_tables opening current seen st k locks ready);
}

module _ (opening : Opening) (current : List ℕ) (seen : Seen) (snaps : List Snap) (here : current ≡ opening.source) (stmt : Stmt) (table : List ℕ) (mode : Mode) (of : IsOfTable stmt table mode) where
  first_lock : (st : Plain) (k : ℕ) → Ready opening current seen st k [] → next_of st k (Some stmt) ≡ Wants All S
  first_lock st k ready =
      built st k stmt of.built ∙ of.next opening current seen st k [] ready here
      ∙ wanted opening current seen st k [] ready All S (unless_shape (shape stmt seen.source) (under st k (Table table) mode (answers stmt seen.source))) refl

  -- its shape is refused
  pub shape_comes : (m : Message) → shape stmt seen.source ≡ Some m → Comes opening current seen snaps stmt (UnderAll S (Msg m))
  shape_comes m e = (
    first_lock,
    λ st k ready. inl (built st k stmt of.built ∙ of.next opening current seen st k ((All, S) ∷ []) ready here
        ∙ had opening current seen st k ((All, S) ∷ []) ready All S (unless_shape (shape stmt seen.source) (under st k (Table table) mode (answers stmt seen.source))) refl
        ∙ ap (λ o. unless_shape o (under st k (Table table) mode (answers stmt seen.source))) e),
  )

  second_lock : shape stmt seen.source ≡ None → (st : Plain) (k : ℕ) → Ready opening current seen st k ((All, S) ∷ []) → next_of st k (Some stmt) ≡ Wants (Table table) mode
  second_lock e st k ready =
      built st k stmt of.built ∙ of.next opening current seen st k ((All, S) ∷ []) ready here
      ∙ had opening current seen st k ((All, S) ∷ []) ready All S (unless_shape (shape stmt seen.source) (under st k (Table table) mode (answers stmt seen.source))) refl
      ∙ ap (λ o. unless_shape o (under st k (Table table) mode (answers stmt seen.source))) e
      ∙ wanted opening current seen st k ((All, S) ∷ []) ready (Table table) mode (answers stmt seen.source) refl

  third : shape stmt seen.source ≡ None → (st : Plain) (k : ℕ) → Ready opening current seen st k ((Table table, mode) ∷ (All, S) ∷ []) → next_of st k (Some stmt) ≡ answers stmt seen.source
  third e st k ready =
      built st k stmt of.built ∙ of.next opening current seen st k ((Table table, mode) ∷ (All, S) ∷ []) ready here
      ∙ had opening current seen st k ((Table table, mode) ∷ (All, S) ∷ []) ready All S (unless_shape (shape stmt seen.source) (under st k (Table table) mode (answers stmt seen.source))) (shared table mode)
      ∙ ap (λ o. unless_shape o (under st k (Table table) mode (answers stmt seen.source))) e
      ∙ had opening current seen st k ((Table table, mode) ∷ (All, S) ∷ []) ready (Table table) mode (answers stmt seen.source) (own_lock table mode ((All, S) ∷ []))

  -- its reply by its meaning
  pub meaning_comes : shape stmt seen.source ≡ None → Comes opening current seen snaps stmt (UnderTable table mode (change_and_reply stmt seen.source).1)
  meaning_comes e = (first_lock, second_lock e, λ st k ready. inl (third e st k ready))

  pub reply_comes : (reply : Reply) → shape stmt seen.source ≡ None → (change_and_reply stmt seen.source).1 ≡ reply → Comes opening current seen snaps stmt (UnderTable table mode reply)
  reply_comes reply e r = subst (λ x. Comes opening current seen snaps stmt (UnderTable table mode x)) r (meaning_comes e)

  -- it would succeed, and finds no room
  pub room_comes : (reply : Reply) → shape stmt seen.source ≡ None → may_grow stmt ≡ true → is_success reply ≡ true → (change_and_reply stmt seen.source).1 ≡ reply → Comes opening current seen snaps stmt (UnderTable table mode (Msg (plain NO_ROOM)))
  room_comes reply e g s r = (first_lock, second_lock e, λ st k ready. inr (NoRoom stmt reply g s (third e st k ready ∙ ap Replies r)))

-- CREATE TABLE IN THE SOURCE

module _ (opening : Opening) (current : List ℕ) (seen : Seen) (snaps : List Snap) (here : current ≡ opening.source) (name : List ℕ) (cols : List Column) where
  stmt_here : Stmt
  stmt_here = CreateTable name cols

  past : (st : Plain) (k : ℕ) (locks : Locks) → Ready opening current seen st k locks → next_of st k (Some (CreateTable name cols)) ≡ cond (length cols == 0) (Replies (Msg (plain BAD_DEFINITION))) (under st k All X (unless_shape (shape (CreateTable name cols) seen.source) (answers (CreateTable name cols) seen.source)))
  past st k locks ready =
      built st k (CreateTable name cols) refl
      ∙ may_write opening current seen st k locks ready here _
      ∙ (let d = ready.depth in rw d refl)
      ∙ ap (λ t. cond (length cols == 0) (Replies (Msg (plain BAD_DEFINITION))) (under st k All X (unless_shape (shape (CreateTable name cols) t) (answers (CreateTable name cols) t)))) (seen_tables opening current seen st k locks ready)

  pub bad_comes : (length cols == 0) ≡ true → Comes opening current seen snaps (CreateTable name cols) (AtOnce (Msg (plain BAD_DEFINITION)))
  bad_comes e st k ready is = inl (past st k [] ready ∙ (rw e refl))

  module _ (good : (length cols == 0) ≡ false) where
    lock_all : (st : Plain) (k : ℕ) → Ready opening current seen st k [] → next_of st k (Some (CreateTable name cols)) ≡ Wants All X
    lock_all st k ready = past st k [] ready ∙ (rw good (wanted opening current seen st k [] ready All X _ refl))

    locked_all : (st : Plain) (k : ℕ) → Ready opening current seen st k ((All, X) ∷ []) → next_of st k (Some (CreateTable name cols)) ≡ unless_shape (shape (CreateTable name cols) seen.source) (answers (CreateTable name cols) seen.source)
    locked_all st k ready = past st k ((All, X) ∷ []) ready ∙ (rw good (had opening current seen st k ((All, X) ∷ []) ready All X _ refl))

    pub taken_comes : (m : Message) → shape (CreateTable name cols) seen.source ≡ Some m → Comes opening current seen snaps (CreateTable name cols) (UnderAll X (Msg m))
    taken_comes m e = (lock_all, λ st k ready. inl (locked_all st k ready ∙ (rw e refl)))

    pub made_comes : shape (CreateTable name cols) seen.source ≡ None → Comes opening current seen snaps (CreateTable name cols) (UnderAll X Ok)
    made_comes e = (lock_all, λ st k ready. inl (locked_all st k ready ∙ (rw e refl)))

    pub full_comes : shape (CreateTable name cols) seen.source ≡ None → Comes opening current seen snaps (CreateTable name cols) (UnderAll X (Msg (plain NO_ROOM)))
    full_comes e = (lock_all, λ st k ready. inr (NoRoom (CreateTable name cols) Ok refl refl (locked_all st k ready ∙ (rw e refl))))
