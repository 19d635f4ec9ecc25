-- The plain machine of a state, and one event more.
use Rattle.std.proofs.Common.{◌≡◌, ℕ, suc, ◌+◌, ◌-◌, ◌==◌, ◌||◌, Bool, true, false, cond, List, [], ◌∷◌, ◌++◌, length, refl, ap, ◌∙◌, arith}
use Rattle.std.specs.Prelude.{Option, Some, None, nat_le}
use Rattle.plain_model.specs.declared.event.Event.{Event}
use Rattle.plain_model.specs.declared.event.Event.TheVariants.{Locked, CutAt, RestoreAt, Turned, Said, Left}
use Rattle.plain_model.specs.declared.reply.Message.{Message}
use Rattle.plain_model.specs.declared.reply.TheConstants.Message.{NO_MEMORY, FILE_FAILED, FILE_NOT_REMOVED, LOG_FAILED}
use Rattle.plain_model.specs.declared.reply.Reply.{Reply}
use Rattle.plain_model.specs.declared.reply.Reply.TheVariants.{Ok, Count, Rows, Msg}
use Rattle.plain_model.specs.declared.stmt.Stmt.TheVariants.{UseDb, CreateTable, DropTable, Insert, Select, Update, Delete, BeginTran, Commit, Rollback, LockTimeoutZero, SetLevel, CreateSnap, DropDb, Restore, Broken}
use Rattle.plain_model.specs.Meaning.{change_and_reply}
use Rattle.plain_model.specs.Next.{sparse_names}
use Rattle.plain_model.specs.Tables.{Change}
use Rattle.plain_model.specs.Journal.{Committed}
use Rattle.plain_model.specs.declared.stmt.Stmt.{Stmt}
use Rattle.plain_model.specs.Journal.{Opening}
use Rattle.plain_model.specs.Legal.{MayCome, LegalFrom, Legal, after, end, end_from, with_session, with_changes, outside, after_commit, with_doubt, without_snap, without_made, effect}
use Rattle.plain_model.specs.State.{Plain, session, see, stmt_of, files_of, start}
use Rattle.step_state.specs.State.{State, Fixed, machine}

pub machine_same : (e s : State) → s.fixed ≡ e.fixed → s.events ≡ e.events → machine s ≡ machine e
machine_same e s f v = ap (λ (g : Fixed). end g.opening g.scripts s.events) f ∙ ap (λ es. end e.fixed.opening e.fixed.scripts es) v

end_more : (st : Plain) (es : List Event) (ev : Event) → end_from st (es ++ ev ∷ []) ≡ after (end_from st es) ev
end_more st [] ev = refl
end_more st (x ∷ es) ev = end_more (after st x) es ev

legal_more : (st : Plain) (es : List Event) (ev : Event) → LegalFrom st es → MayCome (end_from st es) ev → LegalFrom st (es ++ ev ∷ [])
legal_more st [] ev l m = (m, tt)
legal_more st (x ∷ es) ev l m = (l.0, legal_more (after st x) es ev l.1 m)

pub machine_more : (e s : State) (ev : Event) → s.fixed ≡ e.fixed → s.events ≡ e.events ++ ev ∷ [] → machine s ≡ after (machine e) ev
machine_more e s ev f v = ap (λ (g : Fixed). end g.opening g.scripts s.events) f ∙ ap (λ es. end e.fixed.opening e.fixed.scripts es) v ∙ end_more (start e.fixed.opening e.fixed.scripts) e.events ev

pub history_more : (opening : Opening) (scripts : List (List Stmt)) (es : List Event) (ev : Event) → Legal opening scripts es → MayCome (end opening scripts es) ev → Legal opening scripts (es ++ ev ∷ [])
history_more opening scripts es ev l m = legal_more (start opening scripts) es ev l m

-- THE MOMENT IS THE HISTORY'S LENGTH

either : {T : Type 0} (f : T → ℕ) (n : ℕ) (b : Bool) (x y : T) → f x ≡ n → f y ≡ n → f (cond b x y) ≡ n
either f n true x y p q = p
either f n false x y p q = q

made_moment : (st : Plain) (o : Option (List ℕ)) → (without_made st o).moment ≡ st.moment
made_moment st None = refl
made_moment st (Some snap) = refl

changes_moment : (st : Plain) (k : ℕ) (cs : List Change) → (with_changes st k cs).moment ≡ st.moment
changes_moment st k cs = either (λ (m : Plain). m.moment) st.moment ((session st k).depth == 0) (record st { journal = Committed k cs ∷ st.journal }) (with_session st k (record (session st k) { work = (session st k).work ++ cs })) refl refl

commit_moment : (st : Plain) (k : ℕ) → (after_commit st k).moment ≡ st.moment
commit_moment st k = either (λ (m : Plain). m.moment) st.moment (nat_le 2 (session st k).depth) (with_session st k (record (session st k) { depth = (session st k).depth - 1 })) (record (with_session st k (outside (session st k))) { journal = Committed k (session st k).work ∷ st.journal }) refl refl

-- a refusal
refused_moment : (st : Plain) (k : ℕ) (stmt : Stmt) (m : Message) → (effect st k (Some stmt) (Msg m)).moment ≡ st.moment
refused_moment st k (CreateSnap snap files of) m = either (λ (x : Plain). x.moment) st.moment (m.number == FILE_FAILED) (with_doubt (without_made st (session st k).making) (sparse_names files)) st (made_moment st (session st k).making) refl
refused_moment st k Commit m = either (λ (x : Plain). x.moment) st.moment (m.number == NO_MEMORY || m.number == LOG_FAILED) (with_session st k (outside (session st k))) st refl refl
refused_moment st k (DropDb d) m = either (λ (x : Plain). x.moment) st.moment (m.number == FILE_NOT_REMOVED) (with_doubt (without_snap st d) (files_of st d)) st refl refl
refused_moment st k (UseDb d) m = refl
refused_moment st k (CreateTable name cols) m = refl
refused_moment st k (DropTable name) m = refl
refused_moment st k (Insert i) m = refl
refused_moment st k (Select s) m = refl
refused_moment st k (Update u) m = refl
refused_moment st k (Delete d) m = refl
refused_moment st k BeginTran m = refl
refused_moment st k Rollback m = refl
refused_moment st k LockTimeoutZero m = refl
refused_moment st k (SetLevel level) m = refl
refused_moment st k (Restore d snap) m = refl
refused_moment st k (Broken at) m = refl

-- any other reply
done_moment : (st : Plain) (k : ℕ) (stmt : Stmt) (reply : Reply) → ((m : Message) → reply ≡ Msg m → ⊥) → (effect st k (Some stmt) reply).moment ≡ st.moment
done_moment st k stmt (Msg m) free = absurd (free m refl)
done_moment st k (UseDb d) Ok free = refl
done_moment st k (UseDb d) (Count n) free = refl
done_moment st k (UseDb d) (Rows rows) free = refl
done_moment st k (CreateTable name cols) Ok free = changes_moment st k (change_and_reply (CreateTable name cols) (see st k)).0
done_moment st k (CreateTable name cols) (Count n) free = changes_moment st k (change_and_reply (CreateTable name cols) (see st k)).0
done_moment st k (CreateTable name cols) (Rows rows) free = changes_moment st k (change_and_reply (CreateTable name cols) (see st k)).0
done_moment st k (DropTable name) Ok free = changes_moment st k (change_and_reply (DropTable name) (see st k)).0
done_moment st k (DropTable name) (Count n) free = changes_moment st k (change_and_reply (DropTable name) (see st k)).0
done_moment st k (DropTable name) (Rows rows) free = changes_moment st k (change_and_reply (DropTable name) (see st k)).0
done_moment st k (Insert i) Ok free = changes_moment st k (change_and_reply (Insert i) (see st k)).0
done_moment st k (Insert i) (Count n) free = changes_moment st k (change_and_reply (Insert i) (see st k)).0
done_moment st k (Insert i) (Rows rows) free = changes_moment st k (change_and_reply (Insert i) (see st k)).0
done_moment st k (Update u) Ok free = changes_moment st k (change_and_reply (Update u) (see st k)).0
done_moment st k (Update u) (Count n) free = changes_moment st k (change_and_reply (Update u) (see st k)).0
done_moment st k (Update u) (Rows rows) free = changes_moment st k (change_and_reply (Update u) (see st k)).0
done_moment st k (Delete d) Ok free = changes_moment st k (change_and_reply (Delete d) (see st k)).0
done_moment st k (Delete d) (Count n) free = changes_moment st k (change_and_reply (Delete d) (see st k)).0
done_moment st k (Delete d) (Rows rows) free = changes_moment st k (change_and_reply (Delete d) (see st k)).0
done_moment st k Commit Ok free = commit_moment st k
done_moment st k Commit (Count n) free = commit_moment st k
done_moment st k Commit (Rows rows) free = commit_moment st k
done_moment st k (Select s) Ok free = refl
done_moment st k (Select s) (Count n) free = refl
done_moment st k (Select s) (Rows rows) free = refl
done_moment st k BeginTran Ok free = refl
done_moment st k BeginTran (Count n) free = refl
done_moment st k BeginTran (Rows rows) free = refl
done_moment st k Rollback Ok free = refl
done_moment st k Rollback (Count n) free = refl
done_moment st k Rollback (Rows rows) free = refl
done_moment st k LockTimeoutZero Ok free = refl
done_moment st k LockTimeoutZero (Count n) free = refl
done_moment st k LockTimeoutZero (Rows rows) free = refl
done_moment st k (SetLevel level) Ok free = refl
done_moment st k (SetLevel level) (Count n) free = refl
done_moment st k (SetLevel level) (Rows rows) free = refl
done_moment st k (CreateSnap snap files of) Ok free = refl
done_moment st k (CreateSnap snap files of) (Count n) free = refl
done_moment st k (CreateSnap snap files of) (Rows rows) free = refl
done_moment st k (DropDb d) Ok free = refl
done_moment st k (DropDb d) (Count n) free = refl
done_moment st k (DropDb d) (Rows rows) free = refl
done_moment st k (Restore d snap) Ok free = refl
done_moment st k (Restore d snap) (Count n) free = refl
done_moment st k (Restore d snap) (Rows rows) free = refl
done_moment st k (Broken at) Ok free = refl
done_moment st k (Broken at) (Count n) free = refl
done_moment st k (Broken at) (Rows rows) free = refl

effect_moment : (st : Plain) (k : ℕ) (o : Option Stmt) (reply : Reply) → (effect st k o reply).moment ≡ st.moment
effect_moment st k None Ok = refl
effect_moment st k None (Count n) = refl
effect_moment st k None (Rows rows) = refl
effect_moment st k None (Msg m) = refl
effect_moment st k (Some stmt) Ok = done_moment st k stmt Ok (λ m e. cc)
effect_moment st k (Some stmt) (Count n) = done_moment st k stmt (Count n) (λ m e. cc)
effect_moment st k (Some stmt) (Rows rows) = done_moment st k stmt (Rows rows) (λ m e. cc)
effect_moment st k (Some stmt) (Msg m) = refused_moment st k stmt m

pub after_moment : (st : Plain) (ev : Event) → (after st ev).moment ≡ st.moment + 1
after_moment st (Locked who table mode) = refl
after_moment st (CutAt who snap) = refl
after_moment st (RestoreAt who snap) = refl
after_moment st (Turned snap) = refl
after_moment st (Said who number began reply) = ap (λ n. n + 1) (effect_moment st who.0 (stmt_of st who.0) reply)
after_moment st (Left who) = refl

from_moment : (st : Plain) (es : List Event) → (end_from st es).moment ≡ st.moment + length es
from_moment st [] = (let same : st.moment ≡ st.moment + 0 = omega arith in same)
from_moment st (ev ∷ es) = (let later = from_moment (after st ev) es in let one = after_moment st ev in let all : (end_from (after st ev) es).moment ≡ st.moment + suc (length es) = omega (arith, later, one) in all)

pub moment_is : (e : State) → (machine e).moment ≡ length e.events
moment_is e = (let all = from_moment (start e.fixed.opening e.fixed.scripts) e.events in let none : (start e.fixed.opening e.fixed.scripts).moment ≡ 0 = refl in let now : (machine e).moment ≡ length e.events = omega (arith, all, none) in now)
