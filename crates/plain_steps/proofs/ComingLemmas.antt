-- What comes next of a statement, read backwards: which checks it has passed, and which locks are held.
use Rattle.std.proofs.Common.{◌≡◌, ◌⊎◌, inl, inr, ℕ, Bool, true, false, not, nat_le, cond, List, [], ◌∷◌, length, refl, ap, sym, ◌∙◌, subst, arith}
use Rattle.std.specs.Prelude.{Option, Some, None, ◌==◌}
use Rattle.std.proofs.lemmas.Bool.{leb-false, cond-true}
use Rattle.page_base.specs.declared.column.Column.{Column}
use Rattle.page_base.specs.declared.numbers.Mode.{Mode}
use Rattle.page_base.specs.declared.numbers.Mode.TheVariants.{S, X}
use Rattle.plain_model.specs.declared.stmt.Stmt.{Stmt}
use Rattle.plain_model.specs.declared.stmt.Stmt.TheVariants.{CreateTable, DropTable, Insert, Select, Update, Delete}
use Rattle.plain_model.specs.declared.stmt.SelectStmt.{SelectStmt}
use Rattle.plain_model.specs.declared.event.LockName.{LockName}
use Rattle.plain_model.specs.declared.event.LockName.TheVariants.{All, Table}
use Rattle.plain_model.specs.declared.reply.Message.{Message}
use Rattle.plain_model.specs.declared.reply.Reply.{Reply}
use Rattle.plain_model.specs.declared.reply.Reply.TheVariants.{Msg}
use Rattle.plain_model.specs.declared.reply.TheConstants.Message.{NO_MEMORY, NO_ROOM, FILE_IS_THERE, FILE_FAILED, FILE_NOT_REMOVED, LOG_FAILED, NO_FRAME, DATA_FAILED, LOCKED, NO_TABLE, SUSPECT, TABLE_IN_TRANSACTION, BAD_DEFINITION, NOT_BUILT}
use Rattle.plain_model.specs.Messages.{plain, at_place}
use Rattle.plain_model.specs.Meaning.{shape, change_and_reply}
use Rattle.plain_model.specs.Statements.{is_of_rows, table_named}
use Rattle.plain_model.specs.State.{Plain, session, see, copy, is_source, is_snap, is_suspect}
use Rattle.plain_model.specs.Holding.{holds, held}
use Rattle.plain_model.specs.Next.{Next, Replies, Wants, Cuts, Restores, unless, unless_shape, waits, under, answers, no_write, is_built, next_of, next_stmt, next_define, next_change, next_select}
use Rattle.plain_model.specs.Free.{IsFree, NoMemory, NoMemoryToCommit, NoMemoryToCut, NoMemoryToRestore, NoFrame, DataFailed, LogFailed, RevertNotLogged, NoRoom, FileFailed, FileNotRemoved, NameTaken, is_of_tables}
use Rattle.plain_model.specs.Alone.{tells_of_tables, answer, or_reply}
use Rattle.plain_steps.proofs.LockLemmas.{holds_shared}

-- REFUSALS THAT LOOK AT NO TABLE

-- this is no refusal that looks at no table
abbrev pub IsQuiet : Next → Type 0
IsQuiet x = (m : Message) → tells_of_tables (Msg m) ≡ false → x ≡ Replies (Msg m) → ⊥

-- one reply comes, not two
pub same_reply : (a b : Reply) → Replies a ≡ Replies b → a ≡ b
same_reply a b e = cc

-- a reply that tells of tables is none of these refusals
pub quiet_reply : (r : Reply) → tells_of_tables r ≡ true → IsQuiet (Replies r)
quiet_reply r t m f e =
    let same : r ≡ Msg m = same_reply r (Msg m) e in
    let x : true ≡ false = sym t ∙ ap tells_of_tables same ∙ f in absurd (cc)

-- neither is a lock
pub quiet_wants : (name : LockName) (mode : Mode) → IsQuiet (Wants name mode)
quiet_wants name mode m f e = absurd (cc)

-- nor a cut
pub quiet_cuts : (snap : List ℕ) → IsQuiet (Cuts snap)
quiet_cuts snap m f e = absurd (cc)

-- nor a revert
pub quiet_restores : (snap : List ℕ) → IsQuiet (Restores snap)
quiet_restores snap m f e = absurd (cc)

-- these refusals look at no table
abbrev pub AreLoud : List (Bool × Message) → Type 0
AreLoud [] = Unit {0}
AreLoud (r ∷ rs) = (tells_of_tables (Msg r.1) ≡ false) × AreLoud rs

-- none of these applies
abbrev pub NoneApply : List (Bool × Message) → Type 0
NoneApply [] = Unit {0}
NoneApply (r ∷ rs) = (r.0 ≡ false) × NoneApply rs

one_passed : (x n : Next) (b : Bool) (m : Message) → IsQuiet x → tells_of_tables (Msg m) ≡ false → cond b (Replies (Msg m)) n ≡ x → (b ≡ false) × (n ≡ x)
one_passed x n true m q f e = absurd (q m f (sym e))
one_passed x n false m q f e = (refl, e)

-- what is none of these refusals comes behind them, where none of them applies
pub passed : (x n : Next) (rs : List (Bool × Message)) → IsQuiet x → AreLoud rs → unless rs n ≡ x → NoneApply rs × (n ≡ x)
passed x n [] q l e = (tt, e)
passed x n (r ∷ rs) q l e =
    let h = one_passed x (unless rs n) r.0 r.1 q l.0 e in
    let t = passed x n rs q l.1 h.1 in
    ((h.0, t.0), t.1)

-- the free replies look at no table
pub free_loud : (st : Plain) (k : ℕ) (o : Option Stmt) (r : Reply) → IsFree st k o r → IsQuiet (Replies r) → ⊥
free_loud st k o r (NoMemory stmt a b) q = q (plain NO_MEMORY) refl refl
free_loud st k o r (NoMemoryToCommit a) q = q (plain NO_MEMORY) refl refl
free_loud st k o r (NoMemoryToCut snap files of a) q = q (plain NO_MEMORY) refl refl
free_loud st k o r (NoMemoryToRestore d snap) q = q (plain NO_MEMORY) refl refl
free_loud st k o r (NoFrame stmt pins a) q = q (at_place NO_FRAME pins) refl refl
free_loud st k o r (DataFailed stmt count a) q = q (at_place DATA_FAILED count) refl refl
free_loud st k o r (LogFailed stmt success count a b c) q = q (at_place LOG_FAILED count) refl refl
free_loud st k o r (RevertNotLogged d snap count a) q = q (at_place LOG_FAILED count) refl refl
free_loud st k o r (NoRoom stmt success a b c) q = q (plain NO_ROOM) refl refl
free_loud st k o r (FileFailed snap files of a) q = q (plain FILE_FAILED) refl refl
free_loud st k o r (FileNotRemoved d a) q = q (plain FILE_NOT_REMOVED) refl refl
free_loud st k o r (NameTaken snap files of a b) q = q (plain FILE_IS_THERE) refl refl

-- it comes of the statement
pub of_built : (st : Plain) (k : ℕ) (stmt : Stmt) (x : Next) → IsQuiet x → next_of st k (Some stmt) ≡ x → next_stmt st k stmt ≡ x
of_built st k stmt x q e = (passed x (next_stmt st k stmt) ((not (is_built stmt), plain NOT_BUILT) ∷ []) q (refl, tt) e).1

-- BEHIND THE SHAPE, AND UNDER A LOCK

-- a refusal by shape is the reply, or there is none
pub shaped : (x n : Next) (o : Option Message) → unless_shape o n ≡ x → ((m : Message) × (o ≡ Some m) × (x ≡ Replies (Msg m))) ⊎ ((o ≡ None) × (n ≡ x))
shaped x n None e = inr (refl, e)
shaped x n (Some m) e = inl (m, refl, sym e)

-- a reply comes once the lock is held
under_reply : (st : Plain) (k : ℕ) (name : LockName) (mode : Mode) (n : Next) (r : Reply) → IsQuiet (Replies r) → under st k name mode n ≡ Replies r → (holds (session st k).locks name mode ≡ true) × (n ≡ Replies r)
under_reply st k name mode n r q e = by (holds (session st k).locks name mode) (held st k name mode) e
  where
    by : (b : Bool) (o : Option ℕ) → cond b n (waits o name mode) ≡ Replies r → (b ≡ true) × (n ≡ Replies r)
    by true o e = (refl, e)
    by false None e = absurd (cc)
    by false (Some other) e = absurd (q (at_place LOCKED other) refl (sym e))

-- a lock is wanted that isn't held, where nobody is in the way
pub record IsWanted (st : Plain) (k : ℕ) (name : LockName) (mode : Mode) : Type 0 where
  pub lacks : holds (session st k).locks name mode ≡ false
  pub free : held st k name mode ≡ None

-- under a lock that is held the rest comes; else the lock is wanted
pub under_wants : (st : Plain) (k : ℕ) (a : LockName) (m : Mode) (n : Next) (name : LockName) (mode : Mode) → under st k a m n ≡ Wants name mode → ((holds (session st k).locks a m ≡ true) × (n ≡ Wants name mode)) ⊎ ((name ≡ a) × IsWanted st k name mode)
under_wants st k a m n name mode e = by (holds (session st k).locks a m) (held st k a m) refl refl e
  where
    by : (b : Bool) (o : Option ℕ) → holds (session st k).locks a m ≡ b → held st k a m ≡ o → cond b n (waits o a m) ≡ Wants name mode → ((b ≡ true) × (n ≡ Wants name mode)) ⊎ ((name ≡ a) × IsWanted st k name mode)
    by true o hb ho e = inl (refl, e)
    by false (Some other) hb ho e = absurd (cc)
    by false None hb ho e =
        let na : a ≡ name = cc in
        let me : m ≡ mode = cc in
        inr (
          sym na,
          record {
            lacks = subst (λ (z : LockName). holds (session st k).locks z mode ≡ false) na (subst (λ (y : Mode). holds (session st k).locks a y ≡ false) me hb);
            free = subst (λ (z : LockName). held st k z mode ≡ None) na (subst (λ (y : Mode). held st k a y ≡ None) me ho);
          },
        )

-- A STATEMENT THAT IS ANSWERED OVER ITS TABLE

-- it changes rows of its table
pub record Writes (st : Plain) (k : ℕ) (stmt : Stmt) : Type 0 where
  pub of : is_of_rows stmt ≡ true
  pub all : holds (session st k).locks All S ≡ true
  pub table : holds (session st k).locks (Table (table_named stmt)) X ≡ true

-- a table that it makes has columns
abbrev pub IsNoBad : Stmt → Type 0
IsNoBad stmt = (name : List ℕ) (cols : List Column) → stmt ≡ CreateTable name cols → (length cols == 0) ≡ false

-- so it is of CREATE TABLE that isn't refused
pub create_good : (name : List ℕ) (cols : List Column) → (length cols == 0) ≡ false → IsNoBad (CreateTable name cols)
create_good name cols h other others e = let same : cols ≡ others = cc in subst (λ (cs : List Column). (length cs == 0) ≡ false) same h

-- and of DROP TABLE, which makes none
pub drop_good : (name : List ℕ) → IsNoBad (DropTable name)
drop_good name other others e = absurd (cc)

-- it makes or drops its table
pub record Defines (st : Plain) (k : ℕ) (stmt : Stmt) : Type 0 where
  pub outside : (session st k).depth ≡ 0
  pub all : holds (session st k).locks All X ≡ true
  pub good : IsNoBad stmt

-- it reads rows of its table
pub record Reads (st : Plain) (k : ℕ) (stmt : Stmt) : Type 0 where
  pub all : holds (session st k).locks All S ≡ true
  pub table : holds (session st k).locks (Table (table_named stmt)) S ≡ true

-- the reply is a refusal by shape, under the lock on all tables, or what the statement comes to, under these locks
pub data Backed (L : Type 0) (st : Plain) (k : ℕ) (stmt : Stmt) (r : Reply) : Type 0 where
  ByShape : (m : Message) → holds (session st k).locks All S ≡ true → shape stmt (see st k) ≡ Some m → r ≡ Msg m → Backed L st k stmt r
  ByData : L → shape stmt (see st k) ≡ None → r ≡ (change_and_reply stmt (see st k)).1 → Backed L st k stmt r

-- under other locks, where these give those
pub with_locks : (L M : Type 0) (st : Plain) (k : ℕ) (stmt : Stmt) (r : Reply) → (L → M) → Backed L st k stmt r → Backed M st k stmt r
with_locks L M st k stmt r f (ByShape m a b c) = ByShape m a b c
with_locks L M st k stmt r f (ByData l b c) = ByData (f l) b c

change_backed : (st : Plain) (k : ℕ) (stmt : Stmt) (r : Reply) → is_of_rows stmt ≡ true → IsQuiet (Replies r) → next_change st k stmt (table_named stmt) ≡ Replies r → Backed (Writes st k stmt) st k stmt r
change_backed st k stmt r of q e =
    let last : Next = answers stmt (see st k) in
    let third : Next = under st k (Table (table_named stmt)) X last in
    let second : Next = unless_shape (shape stmt (see st k)) third in
    let a = passed (Replies r) (under st k All S second) (no_write st k) q (refl, (refl, tt)) e in
    let b = under_reply st k All S second r q a.1 in
    elim (shaped (Replies r) third (shape stmt (see st k)) b.1) [
      | inl h ↦ ByShape h.0 b.0 h.1 (same_reply r (Msg h.0) h.2)
      | inr h ↦ let c = under_reply st k (Table (table_named stmt)) X last r q h.1 in ByData (record { of = of; all = b.0; table = c.0 }) h.0 (same_reply r (change_and_reply stmt (see st k)).1 (sym c.1))
    ]

define_backed : (st : Plain) (k : ℕ) (stmt : Stmt) (bad : Bool) (r : Reply) → (bad ≡ false → IsNoBad stmt) → IsQuiet (Replies r) → next_define st k stmt bad ≡ Replies r → Backed (Defines st k stmt) st k stmt r
define_backed st k stmt bad r good q e =
    let last : Next = answers stmt (see st k) in
    let third : Next = unless_shape (shape stmt (see st k)) last in
    let second : Next = under st k All X third in
    let checks : List (Bool × Message) = (nat_le 1 (session st k).depth, plain TABLE_IN_TRANSACTION) ∷ (bad, plain BAD_DEFINITION) ∷ [] in
    let a = passed (Replies r) (unless checks second) (no_write st k) q (refl, (refl, tt)) e in
    let b = passed (Replies r) second checks q (refl, (refl, tt)) a.1 in
    let c = under_reply st k All X third r q b.1 in
    let low = leb-false 1 (session st k).depth b.0.0 in
    elim (shaped (Replies r) last (shape stmt (see st k)) c.1) [
      | inl h ↦ ByShape h.0 (holds_shared (session st k).locks All X c.0) h.1 (same_reply r (Msg h.0) h.2)
      | inr h ↦ ByData (record { outside = omega (arith, low); all = c.0; good = good b.0.1.0 }) h.0 (same_reply r (change_and_reply stmt (see st k)).1 (sym h.1))
    ]

select_backed : (st : Plain) (k : ℕ) (s : SelectStmt) (r : Reply) → is_source st (session st k).current ≡ true → IsQuiet (Replies r) → next_select st k (Select s) s.table ≡ Replies r → Backed (Reads st k (Select s)) st k (Select s) r
select_backed st k s r here q e =
    let last : Next = answers (Select s) (see st k) in
    let third : Next = under st k (Table s.table) S last in
    let second : Next = unless_shape (shape (Select s) (see st k)) third in
    let current : List ℕ = (session st k).current in
    let b = under_reply st k All S second r q (sym (cond-true (is_source st current) (under st k All S second) (cond (is_snap st current) (unless ((is_suspect st current, plain SUSPECT) ∷ []) (unless_shape (shape (Select s) (copy st current)) (answers (Select s) (copy st current)))) (Replies (Msg (plain NO_TABLE)))) here) ∙ e) in
    elim (shaped (Replies r) third (shape (Select s) (see st k)) b.1) [
      | inl h ↦ ByShape h.0 b.0 h.1 (same_reply r (Msg h.0) h.2)
      | inr h ↦ let c = under_reply st k (Table s.table) S last r q h.1 in ByData (record { all = b.0; table = c.0 }) h.0 (same_reply r (change_and_reply (Select s) (see st k)).1 (sym c.1))
    ]

-- what a statement changes is done under these
abbrev pub Under : Plain → ℕ → Stmt → Type 0
Under st k stmt = Writes st k stmt ⊎ Defines st k stmt

-- outside a transaction, or under locks on all tables and on its own
abbrev pub Over : Plain → ℕ → Stmt → Type 0
Over st k stmt = ((session st k).depth ≡ 0) ⊎ Reads st k stmt

writes_over : (st : Plain) (k : ℕ) (stmt : Stmt) → Writes st k stmt → Over st k stmt
writes_over st k stmt w = inr (record { all = w.all; table = holds_shared (session st k).locks (Table (table_named stmt)) X w.table })

-- a statement on the source's tables is answered over its table
pub backed : (st : Plain) (k : ℕ) (stmt : Stmt) (r : Reply) → is_of_tables stmt ≡ true → is_source st (session st k).current ≡ true → IsQuiet (Replies r) → next_stmt st k stmt ≡ Replies r → Backed (Over st k stmt) st k stmt r
backed st k (CreateTable name cols) r of here q e = with_locks (Defines st k (CreateTable name cols)) (Over st k (CreateTable name cols)) st k (CreateTable name cols) r (λ d. inl d.outside) (define_backed st k (CreateTable name cols) (length cols == 0) r (create_good name cols) q e)
backed st k (DropTable name) r of here q e = with_locks (Defines st k (DropTable name)) (Over st k (DropTable name)) st k (DropTable name) r (λ d. inl d.outside) (define_backed st k (DropTable name) false r (λ h. drop_good name) q e)
backed st k (Insert i) r of here q e = with_locks (Writes st k (Insert i)) (Over st k (Insert i)) st k (Insert i) r (writes_over st k (Insert i)) (change_backed st k (Insert i) r refl q e)
backed st k (Update u) r of here q e = with_locks (Writes st k (Update u)) (Over st k (Update u)) st k (Update u) r (writes_over st k (Update u)) (change_backed st k (Update u) r refl q e)
backed st k (Delete d) r of here q e = with_locks (Writes st k (Delete d)) (Over st k (Delete d)) st k (Delete d) r (writes_over st k (Delete d)) (change_backed st k (Delete d) r refl q e)
backed st k (Select s) r of here q e = with_locks (Reads st k (Select s)) (Over st k (Select s)) st k (Select s) r (λ d. inr d) (select_backed st k s r here q e)
backed st k stmt r of here q e = absurd (let x : false ≡ true = of in cc)

-- so its reply is what it answers over what its session sees
pub answered_by : (L : Type 0) (st : Plain) (k : ℕ) (stmt : Stmt) (r : Reply) → Backed L st k stmt r → r ≡ answer stmt (see st k)
answered_by L st k stmt r (ByShape m a b c) = c ∙ sym (ap (λ (o : Option Message). or_reply o (change_and_reply stmt (see st k)).1) b)
answered_by L st k stmt r (ByData l b c) = c ∙ sym (ap (λ (o : Option Message). or_reply o (change_and_reply stmt (see st k)).1) b)

-- what is changed without a refusal is changed under locks
pub well_changed : (st : Plain) (k : ℕ) (stmt : Stmt) (r : Reply) → (next_stmt st k stmt ≡ next_change st k stmt (table_named stmt)) → is_of_rows stmt ≡ true → ((m : Message) → r ≡ Msg m → ⊥) → IsQuiet (Replies r) → next_stmt st k stmt ≡ Replies r → Writes st k stmt × (shape stmt (see st k) ≡ None)
well_changed st k stmt r is of refused q e = elim (change_backed st k stmt r of q (sym is ∙ e)) [
  | ByShape m a b c ↦ absurd (refused m c)
  | ByData l b c ↦ (l, b)
]

-- so is a table that is made or dropped
pub well_defined : (st : Plain) (k : ℕ) (stmt : Stmt) (bad : Bool) (r : Reply) → (bad ≡ false → IsNoBad stmt) → ((m : Message) → r ≡ Msg m → ⊥) → IsQuiet (Replies r) → next_define st k stmt bad ≡ Replies r → Defines st k stmt × (shape stmt (see st k) ≡ None)
well_defined st k stmt bad r good refused q e = elim (define_backed st k stmt bad r good q e) [
  | ByShape m a b c ↦ absurd (refused m c)
  | ByData l b c ↦ (l, b)
]
