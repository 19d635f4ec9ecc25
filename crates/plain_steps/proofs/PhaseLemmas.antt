-- The phases of a statement on tables, and what a lock that is there, or lacks, makes of one.
use Rattle.std.proofs.Common.{◌≡◌, ℕ, true, false, not, cond, [], ◌∷◌, refl, ap, ◌∙◌}
use Rattle.std.specs.Prelude.{Some}
use Rattle.page_base.specs.declared.numbers.Mode.{Mode}
use Rattle.plain_model.specs.declared.event.LockName.{LockName}
use Rattle.plain_model.specs.declared.stmt.Stmt.{Stmt}
use Rattle.plain_model.specs.declared.stmt.Stmt.TheVariants.{UseDb, CreateTable, DropTable, Insert, Select, Update, Delete, BeginTran, Commit, Rollback, LockTimeoutZero, SetLevel, CreateSnap, DropDb, Restore, Broken}
use Rattle.plain_model.specs.Coming.{Next, Replies, unless, unless_shape, waits, under, answers}
use Rattle.plain_model.specs.Free.{is_of_tables}
use Rattle.plain_model.specs.Holding.{held}
use Rattle.plain_model.specs.Meaning.{shape}
use Rattle.plain_model.specs.Messages.{plain}
use Rattle.plain_model.specs.Next.{next, next_of, next_stmt, is_built}
use Rattle.plain_model.specs.declared.reply.Reply.TheVariants.{Msg}
use Rattle.plain_model.specs.declared.reply.TheConstants.Message.{SUSPECT, NO_TABLE, NOT_BUILT}
use Rattle.plain_model.specs.State.{Plain, session, stmt_of, copy, is_source, is_snap, is_suspect}
use Rattle.plain_steps.specs.Modes.{mode_in, suffices}
use Rattle.plain_steps.specs.Phases.{by_phases}
use Rattle.plain_steps.proofs.ModeLemmas.{holds_mode}

-- a statement that is built comes by its own kind
pub built : (st : Plain) (k : ℕ) (stmt : Stmt) → stmt_of st k ≡ Some stmt → is_built stmt ≡ true → next st k ≡ next_stmt st k stmt
built st k stmt is ok = ap (next_of st k) is ∙ ap (λ b. cond (not b) (Replies (Msg (plain NOT_BUILT))) (next_stmt st k stmt)) ok

pub phases : (st : Plain) (k : ℕ) (stmt : Stmt) → is_of_tables stmt ≡ true → is_source st (session st k).current ≡ true → next_stmt st k stmt ≡ by_phases st k stmt
phases st k (CreateTable name cols) of here = refl
phases st k (DropTable name) of here = refl
phases st k (Insert i) of here = refl
phases st k (Update u) of here = refl
phases st k (Delete d) of here = refl
phases st k (Select s) of here = ap (λ b. cond b (by_phases st k (Select s)) (cond (is_snap st (session st k).current)
    (unless ((is_suspect st (session st k).current, plain SUSPECT) ∷ []) (unless_shape (shape (Select s) (copy st (session st k).current)) (answers (Select s) (copy st (session st k).current))))
    (Replies (Msg (plain NO_TABLE))))) here
phases st k (UseDb d) of here = cc
phases st k BeginTran of here = cc
phases st k Commit of here = cc
phases st k Rollback of here = cc
phases st k LockTimeoutZero of here = cc
phases st k (SetLevel level) of here = cc
phases st k (CreateSnap snap files source) of here = cc
phases st k (DropDb d) of here = cc
phases st k (Restore d snap) of here = cc
phases st k (Broken at) of here = cc

pub lacks : (st : Plain) (k : ℕ) (name : LockName) (mode : Mode) (n : Next) → suffices (mode_in (session st k).locks name) mode ≡ false → under st k name mode n ≡ waits (held st k name mode) name mode
lacks st k name mode n none = ap (λ b. cond b n (waits (held st k name mode) name mode)) (holds_mode (session st k).locks name mode ∙ none)

pub has : (st : Plain) (k : ℕ) (name : LockName) (mode : Mode) (n : Next) → suffices (mode_in (session st k).locks name) mode ≡ true → under st k name mode n ≡ n
has st k name mode n there = ap (λ b. cond b n (waits (held st k name mode) name mode)) (holds_mode (session st k).locks name mode ∙ there)
