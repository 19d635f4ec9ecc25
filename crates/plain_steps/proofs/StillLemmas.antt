-- What comes next of each statement passes no test that no reply passes, but for the lock, the cut or the revert that it may come to.
use Rattle.std.proofs.Common.{◌≡◌, ℕ, Bool, true, false, not, nat_le, cond, List, [], ◌∷◌}
use Rattle.std.specs.Prelude.{Option, Some, None, option_map}
use Rattle.page_base.specs.declared.numbers.Mode.{Mode}
use Rattle.page_base.specs.declared.numbers.Mode.TheVariants.{S, X}
use Rattle.plain_model.specs.declared.stmt.Stmt.{Stmt}
use Rattle.plain_model.specs.declared.stmt.Stmt.TheVariants.{Select}
use Rattle.plain_model.specs.declared.stmt.SelectStmt.{SelectStmt}
use Rattle.plain_model.specs.declared.stmt.SnapFile.{SnapFile}
use Rattle.plain_model.specs.declared.event.LockName.{LockName}
use Rattle.plain_model.specs.declared.event.LockName.TheVariants.{All, Table}
use Rattle.plain_model.specs.declared.reply.Message.{Message}
use Rattle.plain_model.specs.declared.reply.Reply.{Reply}
use Rattle.plain_model.specs.declared.reply.Reply.TheVariants.{Ok, Msg}
use Rattle.plain_model.specs.declared.reply.TheConstants.Message.{FILE_FAILED, LOCKED, NO_TABLE, NO_DATABASE, SUSPECT, RESTORING, BEING_MADE, TABLE_IN_TRANSACTION, BAD_DEFINITION, DATABASE_IN_USE, IN_USE, OTHER_SNAPSHOT, REVERT_FAILED}
use Rattle.plain_model.specs.Messages.{plain, at_place, of_name}
use Rattle.plain_model.specs.Meaning.{shape, change_and_reply}
use Rattle.plain_model.specs.State.{Plain, session, see, copy, is_source, is_snap, is_suspect, is_being_made, is_restoring}
use Rattle.plain_model.specs.Holding.{holds, held}
use Rattle.plain_model.specs.Users.{user_of, in_use_by, other_snap}
use Rattle.plain_model.specs.Next.{Next, Replies, Wants, Cuts, Restores, unless, unless_shape, waits, under, answers, no_write, is_database, next_use, next_define, next_change, next_select, no_snap, no_room, next_snap, no_drop, next_drop, no_restore, next_restore}

-- tests that no reply passes
module _ (test : Next → Bool) (off : (r : Reply) → test (Replies r) ≡ false) where
  -- behind refusals
  pub still_unless : (rs : List (Bool × Message)) (n : Next) → test n ≡ false → test (unless rs n) ≡ false
  still_unless [] n h = h
  still_unless (r ∷ rs) n h = elim r.0 as (λ b. test (cond b (Replies (Msg r.1)) (unless rs n)) ≡ false) [ true ↦ off (Msg r.1) | false ↦ still_unless rs n h ]

  -- behind a refusal by shape
  pub still_shape : (o : Option Message) (n : Next) → test n ≡ false → test (unless_shape o n) ≡ false
  still_shape None n h = h
  still_shape (Some m) n h = off (Msg m)

  -- under a lock
  pub still_under : (st : Plain) (k : ℕ) (name : LockName) (mode : Mode) (n : Next) → test (Wants name mode) ≡ false → test n ≡ false → test (under st k name mode n) ≡ false
  still_under st k name mode n w h = elim (holds (session st k).locks name mode) as (λ b. test (cond b n (waits (held st k name mode) name mode)) ≡ false) [ true ↦ h | false ↦ waiting (held st k name mode) ]
    where
      waiting : (o : Option ℕ) → test (waits o name mode) ≡ false
      waiting None = w
      waiting (Some other) = off (Msg (at_place LOCKED other))

  -- either way
  pub still_either : (b : Bool) (n m : Next) → test n ≡ false → test m ≡ false → test (cond b n m) ≡ false
  still_either true n m h g = h
  still_either false n m h g = g

  -- INSERT, UPDATE or DELETE
  pub still_change : (st : Plain) (k : ℕ) (stmt : Stmt) (table : List ℕ) → ((name : LockName) (mode : Mode) → test (Wants name mode) ≡ false) → test (next_change st k stmt table) ≡ false
  still_change st k stmt table w =
      still_unless (no_write st k) (under st k All S (unless_shape (shape stmt (see st k)) (under st k (Table table) X (answers stmt (see st k)))))
      (still_under st k All S (unless_shape (shape stmt (see st k)) (under st k (Table table) X (answers stmt (see st k)))) (w All S)
      (still_shape (shape stmt (see st k)) (under st k (Table table) X (answers stmt (see st k)))
      (still_under st k (Table table) X (answers stmt (see st k)) (w (Table table) X) (off (change_and_reply stmt (see st k)).1))))

  -- CREATE TABLE or DROP TABLE
  pub still_define : (st : Plain) (k : ℕ) (stmt : Stmt) (bad : Bool) → ((name : LockName) (mode : Mode) → test (Wants name mode) ≡ false) → test (next_define st k stmt bad) ≡ false
  still_define st k stmt bad w =
      let checks : List (Bool × Message) = (nat_le 1 (session st k).depth, plain TABLE_IN_TRANSACTION) ∷ (bad, plain BAD_DEFINITION) ∷ [] in
      let inner : Next = unless_shape (shape stmt (see st k)) (answers stmt (see st k)) in
      still_unless (no_write st k) (unless checks (under st k All X inner))
      (still_unless checks (under st k All X inner)
      (still_under st k All X inner (w All X) (still_shape (shape stmt (see st k)) (answers stmt (see st k)) (off (change_and_reply stmt (see st k)).1))))

  -- the part of a SELECT that isn't in the source
  pub still_elsewhere : (st : Plain) (k : ℕ) (s : SelectStmt) → test (cond (is_snap st (session st k).current) (unless ((is_suspect st (session st k).current, plain SUSPECT) ∷ []) (unless_shape (shape (Select s) (copy st (session st k).current)) (answers (Select s) (copy st (session st k).current)))) (Replies (Msg (plain NO_TABLE)))) ≡ false
  still_elsewhere st k s =
      let tables = copy st (session st k).current in
      still_either (is_snap st (session st k).current) (unless ((is_suspect st (session st k).current, plain SUSPECT) ∷ []) (unless_shape (shape (Select s) tables) (answers (Select s) tables))) (Replies (Msg (plain NO_TABLE)))
      (still_unless ((is_suspect st (session st k).current, plain SUSPECT) ∷ []) (unless_shape (shape (Select s) tables) (answers (Select s) tables)) (still_shape (shape (Select s) tables) (answers (Select s) tables) (off (change_and_reply (Select s) tables).1)))
      (off (Msg (plain NO_TABLE)))

  -- SELECT
  pub still_select : (st : Plain) (k : ℕ) (s : SelectStmt) → ((name : LockName) (mode : Mode) → test (Wants name mode) ≡ false) → test (next_select st k (Select s) s.table) ≡ false
  still_select st k s w =
      still_either (is_source st (session st k).current) (under st k All S (unless_shape (shape (Select s) (see st k)) (under st k (Table s.table) S (answers (Select s) (see st k))))) (cond (is_snap st (session st k).current) (unless ((is_suspect st (session st k).current, plain SUSPECT) ∷ []) (unless_shape (shape (Select s) (copy st (session st k).current)) (answers (Select s) (copy st (session st k).current)))) (Replies (Msg (plain NO_TABLE))))
      (still_under st k All S (unless_shape (shape (Select s) (see st k)) (under st k (Table s.table) S (answers (Select s) (see st k)))) (w All S)
      (still_shape (shape (Select s) (see st k)) (under st k (Table s.table) S (answers (Select s) (see st k)))
      (still_under st k (Table s.table) S (answers (Select s) (see st k)) (w (Table s.table) S) (off (change_and_reply (Select s) (see st k)).1))))
      (still_elsewhere st k s)

  -- CREATE DATABASE
  pub still_snap : (st : Plain) (k : ℕ) (o : Option (List ℕ)) (snap : List ℕ) (files : List SnapFile) (of : List ℕ) → test (Cuts snap) ≡ false → test (next_snap st k o snap files of) ≡ false
  still_snap st k (Some made) snap files of w = still_unless ((is_suspect st made, plain FILE_FAILED) ∷ []) (Replies Ok) (off Ok)
  still_snap st k None snap files of w = still_unless (no_snap st k snap files of) (unless (no_room st files) (Cuts snap)) (still_unless (no_room st files) (Cuts snap) w)

  -- DROP DATABASE
  pub still_drop : (st : Plain) (k : ℕ) (d : List ℕ) → test (next_drop st k d) ≡ false
  still_drop st k d =
      let last : List (Bool × Message) = (is_being_made st d, plain BEING_MADE) ∷ [] in
      let users : Option Message = option_map (at_place DATABASE_IN_USE) (user_of st d) in
      still_unless (no_drop st k d) (unless_shape users (unless last (Replies Ok))) (still_shape users (unless last (Replies Ok)) (still_unless last (Replies Ok) (off Ok)))

  -- RESTORE
  pub still_restore : (st : Plain) (k : ℕ) (o : Option (List ℕ)) (d snap : List ℕ) → test (Restores snap) ≡ false → test (next_restore st k o d snap) ≡ false
  still_restore st k (Some begun) d snap w = still_unless ((is_suspect st begun, plain REVERT_FAILED) ∷ []) (Replies Ok) (off Ok)
  still_restore st k None d snap w =
      let users : Option Message = option_map (at_place IN_USE) (in_use_by st k d snap) in
      let checks : List (Bool × Message) = (is_being_made st snap, plain BEING_MADE) ∷ (is_suspect st snap, plain SUSPECT) ∷ [] in
      let others : Option Message = option_map (λ s. of_name OTHER_SNAPSHOT s.name) (other_snap st snap) in
      still_unless (no_restore st k d snap) (unless_shape others (unless checks (unless_shape users (Restores snap))))
      (still_shape others (unless checks (unless_shape users (Restores snap)))
      (still_unless checks (unless_shape users (Restores snap)) (still_shape users (Restores snap) w)))

  -- USE
  pub still_use : (st : Plain) (d : List ℕ) → test (next_use st d) ≡ false
  still_use st d = still_unless ((not (is_database st d), plain NO_DATABASE) ∷ (is_restoring st d, plain RESTORING) ∷ (is_being_made st d, plain BEING_MADE) ∷ (is_suspect st d, plain SUSPECT) ∷ []) (Replies Ok) (off Ok)

  -- COMMIT or ROLLBACK
  pub still_ending : (b : Bool) (number : ℕ) → test (unless ((b, plain number) ∷ []) (Replies Ok)) ≡ false
  still_ending b number = still_unless ((b, plain number) ∷ []) (Replies Ok) (off Ok)
