-- What a commit's reply makes of the plain machine.
use Rattle.std.proofs.Common.{◌≡◌, ℕ, ◌+◌, ◌-◌, ◌<◌, true, cond, ◌==◌, ◌&&◌, List, [], ◌∷◌, ◌++◌, length, refl, ap, sym, subst, ◌∙◌, arith}
use Rattle.std.specs.Prelude.{Some, None, IsTrue, nat_le}
use Rattle.std.proofs.lemmas.Bool.{and_parts, leb-true}
use Rattle.std.proofs.lemmas.List.{length-set, get_or-set_same}
use Rattle.plain_model.specs.declared.event.Event.TheVariants.{Said}
use Rattle.plain_model.specs.declared.reply.Reply.{Reply}
use Rattle.plain_model.specs.declared.reply.Reply.TheVariants.{Ok, Count, Rows, Msg}
use Rattle.plain_model.specs.declared.stmt.Stmt.{Stmt}
use Rattle.plain_model.specs.declared.stmt.Stmt.TheVariants.{UseDb, CreateTable, DropTable, Insert, Select, Update, Delete, BeginTran, Commit, Rollback, LockTimeoutZero, SetLevel, CreateSnap, DropDb, Restore, Broken}
use Rattle.plain_model.specs.Effects.{with_session, with_changes, outside, after_commit, effect}
use Rattle.plain_model.specs.Free.{is_success}
use Rattle.plain_model.specs.Journal.{Committed}
use Rattle.plain_model.specs.Keeping.{kept_locks}
use Rattle.plain_model.specs.Legal.{after, answered, counted, without_restoring}
use Rattle.plain_model.specs.Meaning.{change_and_reply}
use Rattle.plain_model.specs.State.{Plain, Session, session, stmt_of, is_session, committed, see, copy, fresh_session}
use Rattle.plain_model.specs.Tables.{Change, apply}
use Rattle.plain_steps.specs.Events.{is_write, source_by, source_after}
use Rattle.plain_steps.proofs.AfterLemmas.{source_is}
use Rattle.safe_say.specs.Committing.{IsCommitting, Ends, Writes}

-- the session once it is answered
abbrev pub session_after : Session → ℕ → ℕ → Session
session_after m number since = record m { said = number; depth = 0; work = []; locks = []; gained = []; making = None; since = since; first = None }

-- what stays of the machine, and what becomes of it
pub record IsCommitted (st st' : Plain) (k number : ℕ) : Type 0 where
  pub here : session st' k ≡ session_after (session st k) number (st.moment + 1)
  pub scripts : st'.scripts ≡ st.scripts
  pub snaps : st'.snaps ≡ st.snaps
  pub next_cut : st'.next_cut ≡ st.next_cut
  pub moment : st'.moment ≡ st.moment + 1
  pub restoring : st'.restoring ≡ without_restoring k st.restoring
  pub copies : (snap : List ℕ) → copy st' snap ≡ copy st snap

module _ (st : Plain) (k : ℕ) (there : IsTrue (is_session st k)) where
  within : k - 1 < length st.sessions
  within = (let h = and_parts (nat_le 1 k) (nat_le k (length st.sessions)) there in omega (arith, leb-true 1 k h.0, leb-true k (length st.sessions) h.1))

  -- THE EFFECT

  ends_effect : (reply : Reply) → is_success reply ≡ true → effect st k (Some Commit) reply ≡ after_commit st k
  ends_effect Ok t = refl
  ends_effect (Count n) t = refl
  ends_effect (Rows rows) t = cc
  ends_effect (Msg m) t = cc

  writes_effect : (stmt : Stmt) (reply : Reply) → is_write stmt ≡ true → is_success reply ≡ true → effect st k (Some stmt) reply ≡ with_changes st k (change_and_reply stmt (see st k)).0
  writes_effect (CreateTable name cols) Ok w t = refl
  writes_effect (CreateTable name cols) (Count n) w t = refl
  writes_effect (DropTable name) Ok w t = refl
  writes_effect (DropTable name) (Count n) w t = refl
  writes_effect (Insert i) Ok w t = refl
  writes_effect (Insert i) (Count n) w t = refl
  writes_effect (Update u) Ok w t = refl
  writes_effect (Update u) (Count n) w t = refl
  writes_effect (Delete d) Ok w t = refl
  writes_effect (Delete d) (Count n) w t = refl
  writes_effect (CreateTable name cols) (Rows rows) w t = cc
  writes_effect (DropTable name) (Rows rows) w t = cc
  writes_effect (Insert i) (Rows rows) w t = cc
  writes_effect (Update u) (Rows rows) w t = cc
  writes_effect (Delete d) (Rows rows) w t = cc
  writes_effect (CreateTable name cols) (Msg m) w t = cc
  writes_effect (DropTable name) (Msg m) w t = cc
  writes_effect (Insert i) (Msg m) w t = cc
  writes_effect (Update u) (Msg m) w t = cc
  writes_effect (Delete d) (Msg m) w t = cc
  writes_effect (UseDb d) reply w t = cc
  writes_effect (Select s) reply w t = cc
  writes_effect BeginTran reply w t = cc
  writes_effect Commit reply w t = cc
  writes_effect Rollback reply w t = cc
  writes_effect LockTimeoutZero reply w t = cc
  writes_effect (SetLevel level) reply w t = cc
  writes_effect (CreateSnap snap files of) reply w t = cc
  writes_effect (DropDb d) reply w t = cc
  writes_effect (Restore d snap) reply w t = cc
  writes_effect (Broken at) reply w t = cc

  -- THE REPLY

  ends_state : Plain
  ends_state = record (with_session st k (outside (session st k))) { journal = Committed k (session st k).work ∷ st.journal }

  set_here : (m : Session) → session (with_session st k m) k ≡ m
  set_here m = get_or-set_same st.sessions (k - 1) m fresh_session within

  ends_is : (session st k).depth ≡ 1 → after_commit st k ≡ record (with_session st k (outside (session st k))) { journal = Committed k (session st k).work ∷ st.journal }
  ends_is one = ap (λ (n : ℕ). cond (nat_le 2 n) (with_session st k (record (session st k) { depth = (session st k).depth - 1 })) (record (with_session st k (outside (session st k))) { journal = Committed k (session st k).work ∷ st.journal })) one

  writes_is : (cs : List Change) → (session st k).depth ≡ 0 → with_changes st k cs ≡ record st { journal = Committed k cs ∷ st.journal }
  writes_is cs none = ap (λ (n : ℕ). cond (n == 0) (record st { journal = Committed k cs ∷ st.journal }) (with_session st k (record (session st k) { work = (session st k).work ++ cs }))) none

  -- the answer after an effect that left this session outside a transaction, with nothing waiting
  answered_here : (x : Plain) (number : ℕ) → k - 1 < length x.sessions → session x k ≡ record (session st k) { depth = 0; work = [] } → x.moment ≡ st.moment → session (counted (answered x k number)) k ≡ session_after (session st k) number (st.moment + 1)
  answered_here x number in_it own same =
      get_or-set_same x.sessions (k - 1) (record (session x k) { said = number; making = None; locks = kept_locks (session x k); gained = []; since = x.moment + 1; first = None }) fresh_session in_it
      ∙ (λ i. record (own i) { said = number; making = None; locks = kept_locks (own i); gained = []; since = same i + 1; first = None })

  answered_all : (x : Plain) (number : ℕ) → k - 1 < length x.sessions → session x k ≡ record (session st k) { depth = 0; work = [] } → x.moment ≡ st.moment → x.scripts ≡ st.scripts → x.snaps ≡ st.snaps → x.next_cut ≡ st.next_cut → x.restoring ≡ st.restoring → ((snap : List ℕ) → copy x snap ≡ copy st snap)
      → IsCommitted st (counted (answered x k number)) k number
  answered_all x number in_it own moment scripts snaps cut restores copies = record {
    scripts = scripts;
    here = answered_here x number in_it own moment;
    snaps = snaps;
    next_cut = cut;
    moment = ap (λ n. n + 1) moment;
    restoring = ap (without_restoring k) restores;
    copies = copies;
  }

  module _ (idle : (session st k).depth ≡ 0 → (session st k).work ≡ []) (stmt : Stmt) (has : stmt_of st k ≡ Some stmt) (kind : IsCommitting (session st k).depth stmt) (number began : ℕ) (reply : Reply) (success : is_success reply ≡ true) where
    effect_is : (x : Plain) → effect st k (Some stmt) reply ≡ x → after st (Said (record { 0 = k }) number began reply) ≡ counted (answered x k number)
    effect_is x e = ap (λ o. counted (answered (effect st k o reply) k number)) has ∙ ap (λ y. counted (answered y k number)) e

    pub committed_is : IsCommitted st (after st (Said (record { 0 = k }) number began reply)) k number
    committed_is = by kind
      where
        by : IsCommitting (session st k).depth stmt → IsCommitted st (after st (Said (record { 0 = k }) number began reply)) k number
        by (Ends is one) =
            let x : Plain = record (with_session st k (outside (session st k))) { journal = Committed k (session st k).work ∷ st.journal } in
            subst (λ y. IsCommitted st y k number) (sym (effect_is (record (with_session st k (outside (session st k))) { journal = Committed k (session st k).work ∷ st.journal }) (ap (λ c. effect st k (Some c) reply) is ∙ ends_effect reply success ∙ ends_is one)))
            (answered_all (record (with_session st k (outside (session st k))) { journal = Committed k (session st k).work ∷ st.journal }) number (let same = length-set st.sessions (k - 1) (outside (session st k)) in omega (arith, within, same)) (set_here (outside (session st k))) refl refl refl refl refl (λ snap. refl))
        by (Writes is none) =
            let waits : (session st k).work ≡ [] = idle none in
            subst (λ y. IsCommitted st y k number) (sym (effect_is (record st { journal = Committed k (change_and_reply stmt (see st k)).0 ∷ st.journal }) (writes_effect stmt reply is success ∙ writes_is (change_and_reply stmt (see st k)).0 none)))
            (answered_all (record st { journal = Committed k (change_and_reply stmt (see st k)).0 ∷ st.journal }) number within (λ i. record (session st k) { depth = none i; work = waits i }) refl refl refl refl refl (λ snap. refl))

    -- THE SOURCE

    by_success : (reply : Reply) → is_success reply ≡ true → source_by st k (Some stmt) reply ≡ source_after st k stmt
    by_success Ok t = refl
    by_success (Count n) t = refl
    by_success (Rows rows) t = cc
    by_success (Msg m) t = cc

    writes_after : (stmt : Stmt) → is_write stmt ≡ true → (session st k).depth ≡ 0 → source_after st k stmt ≡ apply (change_and_reply stmt (see st k)).0 (committed st)
    writes_after (CreateTable name cols) w none = ap (λ (n : ℕ). cond (true && n == 0) (apply (change_and_reply (CreateTable name cols) (see st k)).0 (committed st)) (committed st)) none
    writes_after (DropTable name) w none = ap (λ (n : ℕ). cond (true && n == 0) (apply (change_and_reply (DropTable name) (see st k)).0 (committed st)) (committed st)) none
    writes_after (Insert i) w none = ap (λ (n : ℕ). cond (true && n == 0) (apply (change_and_reply (Insert i) (see st k)).0 (committed st)) (committed st)) none
    writes_after (Update u) w none = ap (λ (n : ℕ). cond (true && n == 0) (apply (change_and_reply (Update u) (see st k)).0 (committed st)) (committed st)) none
    writes_after (Delete d) w none = ap (λ (n : ℕ). cond (true && n == 0) (apply (change_and_reply (Delete d) (see st k)).0 (committed st)) (committed st)) none
    writes_after (UseDb d) w none = cc
    writes_after (Select s) w none = cc
    writes_after BeginTran w none = cc
    writes_after Commit w none = cc
    writes_after Rollback w none = cc
    writes_after LockTimeoutZero w none = cc
    writes_after (SetLevel level) w none = cc
    writes_after (CreateSnap snap files of) w none = cc
    writes_after (DropDb d) w none = cc
    writes_after (Restore d snap) w none = cc
    writes_after (Broken at) w none = cc

    source_said : committed (after st (Said (record { 0 = k }) number began reply)) ≡ source_after st k stmt
    source_said = source_is st (Said (record { 0 = k }) number began reply) ∙ ap (λ o. source_by st k o reply) has ∙ by_success reply success

    pub ends_source : stmt ≡ Commit → (session st k).depth ≡ 1 → committed (after st (Said (record { 0 = k }) number began reply)) ≡ see st k
    ends_source is one = source_said ∙ ap (source_after st k) is ∙ ap (λ (n : ℕ). cond (nat_le 2 n) (committed st) (see st k)) one

    pub writes_source : is_write stmt ≡ true → (session st k).depth ≡ 0 → committed (after st (Said (record { 0 = k }) number began reply)) ≡ apply (change_and_reply stmt (see st k)).0 (see st k)
    writes_source is none = source_said ∙ writes_after stmt is none ∙ ap (λ w. apply (change_and_reply stmt (see st k)).0 (apply w (committed st))) (sym (idle none))
