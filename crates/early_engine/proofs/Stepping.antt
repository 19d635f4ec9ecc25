-- What a statement's events do to the plain machine.
use Rattle.std.proofs.Common.{◌≡◌, ◌+◌, ◌-◌, ◌<◌, ◌≤◌, ◌⊎◌, inl, inr, ℕ, suc, zero, Bool, true, false, ◌&&◌, not, nat_eq, nat_le, cond, IsTrue, List, [], ◌∷◌, ◌++◌, length, get_or, refl, ap, sym, ◌∙◌, subst, arith, length-set, length-append, eq-eqb}
use Rattle.std.specs.Prelude.{Option, Some, None, slice_get, unwrap_or, ◌==◌}
use Rattle.std.proofs.Math.ListN.{set}
use Rattle.std.proofs.lemmas.List.Folds.{list_any_none}
use Rattle.std.proofs.lemmas.Bool.{cases_eq, leb-true}
use Rattle.std.proofs.lemmas.List.{get_or-set_same, get_or-set_other, set-set, set-get_or}
use Rattle.page_base.specs.declared.numbers.Mode.{Mode}
use Rattle.page_base.specs.declared.numbers.Mode.TheVariants.{S}
use Rattle.plain_model.specs.declared.stmt.Stmt.{Stmt}
use Rattle.plain_model.specs.declared.stmt.Stmt.TheVariants.{UseDb, CreateTable, DropTable, Insert, Update, Delete, BeginTran, Commit, Rollback, LockTimeoutZero, SetLevel, CreateSnap, DropDb, Restore}
use Rattle.plain_model.specs.declared.event.Event.{Event}
use Rattle.plain_model.specs.declared.event.Event.TheVariants.{Locked, Said}
use Rattle.plain_model.specs.declared.event.LockName.{LockName}
use Rattle.plain_model.specs.declared.event.LockName.TheVariants.{All, Table}
use Rattle.plain_model.specs.declared.reply.Reply.{Reply}
use Rattle.plain_model.specs.declared.reply.Reply.TheVariants.{Ok, Count, Rows, Msg}
use Rattle.plain_model.specs.declared.reply.TheConstants.Message.{NOT_BUILT}
use Rattle.plain_model.specs.Messages.{plain}
use Rattle.plain_model.specs.Tables.{Change, Tables, apply}
use Rattle.plain_model.specs.Journal.{Opening, Entry, Committed, source, copy}
use Rattle.plain_model.specs.State.{Plain, Session, Snap, fresh_session, session, stmt_of, is_session, is_being_made, see}
use Rattle.plain_model.specs.Meaning.{change_and_reply}
use Rattle.plain_model.specs.Holding.{holder_from, held, is_in_the_way}
use Rattle.plain_model.specs.Keeping.{kept_locks, with_gain}
use Rattle.plain_model.specs.Next.{Wants, next_of}
use Rattle.plain_model.specs.Free.{IsFree}
use Rattle.plain_model.specs.Legal.{LegalFrom, MayCome, end_from, after, effect, answered, counted, with_changes, with_session, without_restoring}
use Rattle.early_engine.specs.Ready.{Locks, Seen, Ready, Allowed, Comes, locks_of, reply_of}
use Rattle.early_engine.specs.declared.answer.Answer.{Answer}
use Rattle.early_engine.specs.declared.answer.Answer.TheVariants.{AtOnce, UnderAll, UnderTable}
use Rattle.early_engine.specs.Stepping.{number, idle, busy, mid, lock_events, first_of, tables_after, current_after, IsPlain, Around, is_lost, Moves, statement_events}

-- NOBODY IS IN THE WAY

pub holder_none : (j : ℕ) (ss : List Session) (k : ℕ) (name : LockName) (mode : Mode) → ((i : ℕ) → i < length ss → (j + i ≡ k) ⊎ ((get_or ss i fresh_session).locks ≡ [])) → holder_from j ss k name mode ≡ None
holder_none j [] k name mode h = refl
holder_none j (s ∷ ss) k name mode h =
    let rest : holder_from (j + 1) ss k name mode ≡ None = holder_none (j + 1) ss k name mode (λ i lt. elim (h (suc i) (omega (arith, lt))) [ inl e ↦ inl (omega (arith, e)) | inr e ↦ inr e ]) in
    let free : (not (nat_eq j k) && is_in_the_way s.locks name mode) ≡ false = elim (h 0 (omega arith)) [
      | inl e ↦ let same : nat_eq j k ≡ true = eq-eqb j k (omega (arith, e)) in rw same refl
      | inr e ↦ rw e (elim (not (nat_eq j k)) as (λ b. (b && false) ≡ false) [ true ↦ refl | false ↦ refl ])
    ] in
    rw free rest

pub both : (a b : Bool) → (a && b) ≡ true → (a ≡ true) × (b ≡ true)
both true b e = (refl, e)
both false b e = cc

-- SESSION k IN THE MIDST OF A STATEMENT

pub numbered : (st : Plain) (k : ℕ) → IsTrue (is_session st k) → (0 < k) × (k ≤ length st.sessions)
numbered st k there = let h = both (nat_le 1 k) (nat_le k (length st.sessions)) there in (leb-true 1 k h.0, leb-true k (length st.sessions) h.1)

module _ (st : Plain) (k : ℕ) (there : IsTrue (is_session st k)) where
  within : k - 1 < length st.sessions
  within = let n = numbered st k there in omega (arith, n.0, n.1)

  pub session_mid : (s : Session) (j : List Entry) (ss : List Snap) (m : ℕ) → session (mid st k s j ss m) k ≡ s
  session_mid s j ss m = get_or-set_same st.sessions (k - 1) s fresh_session within

  pub with_mid : (s t : Session) (j : List Entry) (ss : List Snap) (m : ℕ) → with_session (mid st k s j ss m) k t ≡ mid st k t j ss m
  with_mid s t j ss m = ap (λ (l : List Session). record (mid st k t j ss m) { sessions = l }) (set-set st.sessions (k - 1) s t)

  pub start_mid : st ≡ mid st k (session st k) st.journal st.snaps st.moment
  start_mid = ap (λ (l : List Session). record st { sessions = l }) (sym (set-get_or st.sessions (k - 1) fresh_session))

  pub session_there : (s : Session) (j : List Entry) (ss : List Snap) (m : ℕ) → IsTrue (is_session (mid st k s j ss m) k)
  session_there s j ss m = simp length-set there

  pub after_lock : (s : Session) (j : List Entry) (ss : List Snap) (m : ℕ) (name : LockName) (mode : Mode) →
      after (mid st k s j ss m) (Locked (number k) name mode) ≡ mid st k (record s { locks = (name, mode) ∷ s.locks; gained = with_gain name mode s.gained; first = Some (unwrap_or s.first m) }) j ss (m + 1)
  after_lock s j ss m name mode =
      ap (λ (t : Session). counted (with_session (mid st k s j ss m) k (record t { locks = (name, mode) ∷ t.locks; gained = with_gain name mode t.gained; first = Some (unwrap_or t.first m) }))) (session_mid s j ss m)
      ∙ ap counted (with_mid s (record s { locks = (name, mode) ∷ s.locks; gained = with_gain name mode s.gained; first = Some (unwrap_or s.first m) }) j ss m)

  -- a reply, once its effect on the machine is known
  pub after_said : (said : ℕ) (current new : List ℕ) (gone : Bool) (since : ℕ) (locks : Locks) (first : Option ℕ) (making : Option (List ℕ)) (j j' : List Entry) (ss ss' : List Snap) (m : ℕ) (base : Plain) (stmt : Stmt) (n b : ℕ) (reply : Reply) →
      base.sessions ≡ st.sessions → base.restoring ≡ None →
      stmt_of (mid st k (busy said current gone since locks first making) j ss m) k ≡ Some stmt →
      effect (mid st k (busy said current gone since locks first making) j ss m) k (Some stmt) reply ≡ mid base k (busy said new gone since locks first making) j' ss' m →
      after (mid st k (busy said current gone since locks first making) j ss m) (Said (number k) n b reply) ≡ mid base k (idle n new gone (m + 1)) j' ss' (m + 1)
  after_said said current new gone since locks first making j j' ss ss' m base stmt n b reply same settled says does =
      ap (λ (o : Option Stmt). counted (answered (effect (mid st k (busy said current gone since locks first making) j ss m) k o reply) k n)) says
      ∙ ap (λ (x : Plain). counted (answered x k n)) does
      ∙ ap (λ (t : Session). counted (record (with_session (mid base k s' j' ss' m) k (record t { said = n; making = None; locks = kept_locks t; gained = []; since = m + 1; first = None })) { restoring = without_restoring k base.restoring }))
      (ap (λ (l : List Session). get_or (set l (k - 1) s') (k - 1) fresh_session) same ∙ get_or-set_same st.sessions (k - 1) s' fresh_session within)
      ∙ ap (λ (o : Option (ℕ × List ℕ)). counted (record (with_session (mid base k s' j' ss' m) k (idle n new gone (m + 1))) { restoring = without_restoring k o })) settled
      ∙ ap (λ (l : List Session). record (mid base k s' j' ss' (m + 1)) { sessions = l; restoring = None }) (set-set base.sessions (k - 1) s' (idle n new gone (m + 1)))
      ∙ ap (λ (o : Option (ℕ × List ℕ)). record (mid base k (idle n new gone (m + 1)) j' ss' (m + 1)) { restoring = o }) (sym settled)
    where
      s' : Session
      s' = busy said new gone since locks first making

  -- what changes commit
  pub record Commits (said : ℕ) (current : List ℕ) (gone : Bool) (since : ℕ) (locks : Locks) (first : Option ℕ) (j : List Entry) (ss : List Snap) (m : ℕ) (changes : List Change) : Type 0 where
    pub journal : List Entry
    pub leads : with_changes (mid st k (busy said current gone since locks first None) j ss m) k changes ≡ mid st k (busy said current gone since locks first None) journal ss m
    pub tables : source st.opening journal ≡ apply changes (source st.opening j)
    pub copies : (snap : List ℕ) → copy st.opening journal snap ≡ copy st.opening j snap

  commits : (said : ℕ) (current : List ℕ) (gone : Bool) (since : ℕ) (locks : Locks) (first : Option ℕ) (j : List Entry) (ss : List Snap) (m : ℕ) (changes : List Change) → Commits said current gone since locks first j ss m changes
  commits said current gone since locks first j ss m changes = record {
    journal = Committed k changes ∷ j;
    leads = ap (λ (t : Session). cond (t.depth == 0) (record (mid st k s j ss m) { journal = Committed k changes ∷ j }) (with_session (mid st k s j ss m) k (record t { work = t.work ++ changes }))) (session_mid s j ss m);
    tables = refl;
    copies = λ snap. refl;
  }
    where
      s : Session
      s = busy said current gone since locks first None

  -- what a reply does beside ending its statement
  pub record Effects (said : ℕ) (current : List ℕ) (gone : Bool) (since : ℕ) (locks : Locks) (first : Option ℕ) (j : List Entry) (ss : List Snap) (m : ℕ) (stmt : Stmt) (reply : Reply) : Type 0 where
    pub journal : List Entry
    pub leads : effect (mid st k (busy said current gone since locks first None) j ss m) k (Some stmt) reply ≡ mid st k (busy said (current_after stmt reply current) gone since locks first None) journal ss m
    pub tables : source st.opening journal ≡ tables_after stmt reply (source st.opening j)
    pub copies : (snap : List ℕ) → copy st.opening journal snap ≡ copy st.opening j snap

  module _ (said : ℕ) (current : List ℕ) (gone : Bool) (since : ℕ) (locks : Locks) (first : Option ℕ) (j : List Entry) (ss : List Snap) (m : ℕ) where
    abbrev pub here : Plain
    here = mid st k (busy said current gone since locks first None) j ss m

    pub see_here : (t : Tables) → source st.opening j ≡ t → see here k ≡ t
    see_here t e = ap (λ (u : Session). apply u.work (source st.opening j)) (session_mid (busy said current gone since locks first None) j ss m) ∙ e

    stays : (stmt : Stmt) (reply : Reply) → effect here k (Some stmt) reply ≡ here → current_after stmt reply current ≡ current → tables_after stmt reply (source st.opening j) ≡ source st.opening j → Effects said current gone since locks first j ss m stmt reply
    stays stmt reply e c t = record { journal = j; leads = e ∙ ap (λ (d : List ℕ). mid st k (busy said d gone since locks first None) j ss m) (sym c); tables = sym t; copies = λ snap. refl }

    unbuilt : (stmt : Stmt) (reply : Reply) → reply ≡ Msg (plain NOT_BUILT) → effect here k (Some stmt) (Msg (plain NOT_BUILT)) ≡ here → Effects said current gone since locks first j ss m stmt reply
    unbuilt stmt reply is e = subst (λ (r : Reply). Effects said current gone since locks first j ss m stmt r) (sym is) (stays stmt (Msg (plain NOT_BUILT)) e refl refl)

    by_changes : (stmt : Stmt) (reply : Reply) → effect here k (Some stmt) reply ≡ with_changes here k (change_and_reply stmt (see here k)).0 → current_after stmt reply current ≡ current →
        tables_after stmt reply (source st.opening j) ≡ apply (change_and_reply stmt (source st.opening j)).0 (source st.opening j) → Effects said current gone since locks first j ss m stmt reply
    by_changes stmt reply e c t =
        let h = commits said current gone since locks first j ss m (change_and_reply stmt (source st.opening j)).0 in
        record {
          journal = h.journal;
          leads = e ∙ ap (λ (u : Tables). with_changes here k (change_and_reply stmt u).0) (see_here (source st.opening j) refl) ∙ h.leads ∙ ap (λ (d : List ℕ). mid st k (busy said d gone since locks first None) h.journal ss m) (sym c);
          tables = h.tables ∙ sym t;
          copies = h.copies;
        }

    enters : (d : List ℕ) (reply : Reply) → effect here k (Some (UseDb d)) reply ≡ with_session here k (record (session here k) { current = d }) → current_after (UseDb d) reply current ≡ d → tables_after (UseDb d) reply (source st.opening j) ≡ source st.opening j → Effects said current gone since locks first j ss m (UseDb d) reply
    enters d reply e c t = record {
      journal = j;
      leads = e ∙ ap (λ (u : Session). with_session here k (record u { current = d })) (session_mid (busy said current gone since locks first None) j ss m) ∙ with_mid (busy said current gone since locks first None) (busy said d gone since locks first None) j ss m
          ∙ ap (λ (d : List ℕ). mid st k (busy said d gone since locks first None) j ss m) (sym c);
      tables = sym t;
      copies = λ snap. refl;
    }

    pub effects : (stmt : Stmt) (reply : Reply) → IsPlain stmt reply → Effects said current gone since locks first j ss m stmt reply
    effects (CreateSnap snap files of) (Msg x) h = stays (CreateSnap snap files of) (Msg x) (rw h refl) refl refl
    effects (CreateSnap snap files of) Ok h = absurd h
    effects (CreateSnap snap files of) (Count n) h = absurd h
    effects (CreateSnap snap files of) (Rows rs) h = absurd h
    effects (UseDb d) (Msg x) h = stays (UseDb d) (Msg x) refl refl refl
    effects (UseDb d) Ok h = enters d Ok refl refl refl
    effects (UseDb d) (Count n) h = enters d (Count n) refl refl refl
    effects (UseDb d) (Rows rs) h = enters d (Rows rs) refl refl refl
    effects (CreateTable name cols) (Msg x) h = stays (CreateTable name cols) (Msg x) refl refl refl
    effects (CreateTable name cols) Ok h = by_changes (CreateTable name cols) Ok refl refl refl
    effects (CreateTable name cols) (Count n) h = by_changes (CreateTable name cols) (Count n) refl refl refl
    effects (CreateTable name cols) (Rows rs) h = by_changes (CreateTable name cols) (Rows rs) refl refl refl
    effects (Insert i) (Msg x) h = stays (Insert i) (Msg x) refl refl refl
    effects (Insert i) Ok h = by_changes (Insert i) Ok refl refl refl
    effects (Insert i) (Count n) h = by_changes (Insert i) (Count n) refl refl refl
    effects (Insert i) (Rows rs) h = by_changes (Insert i) (Rows rs) refl refl refl
    effects (Update u) (Msg x) h = stays (Update u) (Msg x) refl refl refl
    effects (Update u) Ok h = by_changes (Update u) Ok refl refl refl
    effects (Update u) (Count n) h = by_changes (Update u) (Count n) refl refl refl
    effects (Update u) (Rows rs) h = by_changes (Update u) (Rows rs) refl refl refl
    effects (Delete d) (Msg x) h = stays (Delete d) (Msg x) refl refl refl
    effects (Delete d) Ok h = by_changes (Delete d) Ok refl refl refl
    effects (Delete d) (Count n) h = by_changes (Delete d) (Count n) refl refl refl
    effects (Delete d) (Rows rs) h = by_changes (Delete d) (Rows rs) refl refl refl
    effects (DropTable name) reply h = unbuilt (DropTable name) reply h refl
    effects BeginTran reply h = unbuilt BeginTran reply h refl
    effects Commit reply h = unbuilt Commit reply h refl
    effects Rollback reply h = unbuilt Rollback reply h refl
    effects LockTimeoutZero reply h = unbuilt LockTimeoutZero reply h refl
    effects (SetLevel level) reply h = unbuilt (SetLevel level) reply h refl
    effects (DropDb d) reply h = unbuilt (DropDb d) reply h refl
    effects (Restore d snap) reply h = unbuilt (Restore d snap) reply h refl
    effects stmt (Msg x) h = stays stmt (Msg x) refl refl refl
    effects stmt Ok h = stays stmt Ok refl refl refl
    effects stmt (Count n) h = stays stmt (Count n) refl refl refl
    effects stmt (Rows rs) h = stays stmt (Rows rs) refl refl refl

-- A STATEMENT'S EVENTS

pub legal_append : (st : Plain) (es fs : List Event) → LegalFrom st es → LegalFrom (end_from st es) fs → LegalFrom st (es ++ fs)
legal_append st [] fs h k = k
legal_append st (e ∷ es) fs h k = (h.0, legal_append (after st e) es fs h.1 k)

pub end_append : (st : Plain) (es fs : List Event) → end_from st (es ++ fs) ≡ end_from (end_from st es) fs
end_append st [] fs = refl
end_append st (e ∷ es) fs = end_append (after st e) es fs

module _ (opening : Opening) (st : Plain) (k : ℕ) (around : Around opening st k) where
  quiet : (s : Session) (j : List Entry) (ss : List Snap) (m : ℕ) (name : LockName) (mode : Mode) → held (mid st k s j ss m) k name mode ≡ None
  quiet s j ss m name mode = holder_none 1 (set st.sessions (k - 1) s) k name mode (λ i lt. elim (cases_eq i (k - 1)) [
    | inl e ↦ inl (let n = numbered st k around.there in omega (arith, e, n.0))
    | inr ne ↦ inr (ap (λ (t : Session). t.locks) (get_or-set_other st.sessions (k - 1) i s fresh_session ne) ∙ (around.others i (λ e. ne (omega (arith, e)))).0)
  ])

  unmade : (s : Session) (j : List Entry) (ss : List Snap) (m : ℕ) → s.making ≡ None → (d : List ℕ) → is_being_made (mid st k s j ss m) d ≡ false
  unmade s j ss m none d = list_any_none _ (set st.sessions (k - 1) s) (λ i x l. let h = each_unmade s none i in let g : get_or (set st.sessions (k - 1) s) i x ≡ get_or (set st.sessions (k - 1) s) i fresh_session = within_any (set st.sessions (k - 1) s) i x l in rw (g, h) refl)
    where
      within_any : (l : List Session) (i : ℕ) (x : Session) → i < length l → get_or l i x ≡ get_or l i fresh_session
      within_any [] i x lt = absurd (omega (arith, lt))
      within_any (y ∷ ys) zero x lt = refl
      within_any (y ∷ ys) (suc i) x lt = within_any ys i x (omega (arith, lt))

      each_unmade : (s : Session) → s.making ≡ None → (i : ℕ) → (get_or (set st.sessions (k - 1) s) i fresh_session).making ≡ None
      each_unmade s none i = elim (cases_eq i (k - 1)) [
        | inl e ↦ ap (λ n. (get_or (set st.sessions (k - 1) s) n fresh_session).making) e ∙ ap (λ (t : Session). t.making) (get_or-set_same st.sessions (k - 1) s fresh_session (within st k around.there)) ∙ none
        | inr ne ↦ ap (λ (t : Session). t.making) (get_or-set_other st.sessions (k - 1) i s fresh_session ne) ∙ (around.others i (λ e. ne (omega (arith, e)))).1
      ]

  pub ready_mid : (said : ℕ) (current : List ℕ) (gone : Bool) (since : ℕ) (locks : Locks) (first : Option ℕ) (j : List Entry) (ss : List Snap) (m : ℕ) (seen : Seen) →
      is_lost ss opening.source ≡ false → source opening j ≡ seen.source → ((snap : List ℕ) → copy opening j snap ≡ seen.copies snap) → Ready opening current seen (mid st k (busy said current gone since locks first None) j ss m) k locks
  ready_mid said current gone since locks first j ss m seen lost t c =
      let s : Session = busy said current gone since locks first None in
      let is : session (mid st k s j ss m) k ≡ s = session_mid st k around.there s j ss m in
      record {
        there = session_there st k around.there s j ss m;
        current_is = ap (λ (u : Session). u.current) is;
        depth = ap (λ (u : Session). u.depth) is;
        work = ap (λ (u : Session). u.work) is;
        making = ap (λ (u : Session). u.making) is;
        locks_are = ap (λ (u : Session). u.locks) is;
        unmade = unmade s j ss m refl;
        quiet = quiet s j ss m;
        tables_are = ap (λ (o : Opening). source o j) around.opened ∙ t;
        copies_are = λ snap. ap (λ (o : Opening). copy o j snap) around.opened ∙ c snap;
        opened = around.opened;
        apart = lost;
        settled = around.settled;
      }

  stmt_mid : (s : Session) (j : List Entry) (ss : List Snap) (m : ℕ) → stmt_of (mid st k s j ss m) k ≡ slice_get (get_or st.scripts (k - 1) []) s.said
  stmt_mid s j ss m = ap (λ (u : Session). slice_get (get_or st.scripts (k - 1) []) u.said) (session_mid st k around.there s j ss m)

  module _ (said : ℕ) (current : List ℕ) (gone : Bool) (since : ℕ) (stmt : Stmt) (is : session st k ≡ idle said current gone since) (says : slice_get (get_or st.scripts (k - 1) []) said ≡ Some stmt) where
    begin : st ≡ mid st k (busy said current gone since [] None None) st.journal st.snaps st.moment
    begin = start_mid st k around.there ∙ ap (λ (s : Session). mid st k s st.journal st.snaps st.moment) is

    abbrev within_locks : Answer → Plain
    within_locks answer = mid st k (busy said current gone since (locks_of answer) (first_of answer st.moment) None) st.journal st.snaps (st.moment + length (lock_events k answer))

    locked : (answer : Answer) → end_from st (lock_events k answer) ≡ within_locks answer
    locked (AtOnce reply) = begin ∙ ap (λ (n : ℕ). mid st k (busy said current gone since [] None None) st.journal st.snaps n) (omega arith)
    locked (UnderAll mode reply) =
        ap (λ (x : Plain). after x (Locked (number k) All mode)) begin
        ∙ after_lock st k around.there (busy said current gone since [] None None) st.journal st.snaps st.moment All mode
    locked (UnderTable name mode reply) =
        ap (λ (x : Plain). after (after x (Locked (number k) All S)) (Locked (number k) (Table name) mode)) begin
        ∙ ap (λ (x : Plain). after x (Locked (number k) (Table name) mode)) (after_lock st k around.there (busy said current gone since [] None None) st.journal st.snaps st.moment All S)
        ∙ after_lock st k around.there (busy said current gone since ((All, S) ∷ []) (Some st.moment) None) st.journal st.snaps (st.moment + 1) (Table name) mode
        ∙ ap (λ (n : ℕ). mid st k (busy said current gone since ((Table name, mode) ∷ (All, S) ∷ []) (Some st.moment) None) st.journal st.snaps n) (omega arith)

    -- the statement's own event, at the moment when all others have come
    module _ (ss : List Snap) (answer : Answer) (m : ℕ) where
      abbrev before_reply : Plain
      before_reply = mid st k (busy said current gone since (locks_of answer) (first_of answer st.moment) None) st.journal ss m

      abbrev pub effects_of : IsPlain stmt (reply_of answer) → Effects st k around.there said current gone since (locks_of answer) (first_of answer st.moment) st.journal ss m stmt (reply_of answer)
      effects_of plain = effects st k around.there said current gone since (locks_of answer) (first_of answer st.moment) st.journal ss m stmt (reply_of answer) plain

      replied : (plain : IsPlain stmt (reply_of answer)) → after before_reply (Said (number k) (said + 1) st.moment (reply_of answer)) ≡ mid st k (idle (said + 1) (current_after stmt (reply_of answer) current) gone (m + 1)) (effects_of plain).journal ss (m + 1)
      replied plain =
          after_said st k around.there said current (current_after stmt (reply_of answer) current) gone since (locks_of answer) (first_of answer st.moment) None st.journal (effects_of plain).journal ss ss m st stmt (said + 1) st.moment (reply_of answer)
          refl around.settled (stmt_mid (busy said current gone since (locks_of answer) (first_of answer st.moment) None) st.journal ss m ∙ says) (effects_of plain).leads

      may_reply : since ≤ st.moment → st.moment ≤ m → Allowed before_reply k stmt (reply_of answer) → MayCome before_reply (Said (number k) (said + 1) st.moment (reply_of answer))
      may_reply old le allowed =
          let s : Session = busy said current gone since (locks_of answer) (first_of answer st.moment) None in
          let is : session before_reply k ≡ s = session_mid st k around.there s st.journal ss m in
          let mine : stmt_of before_reply k ≡ Some stmt = stmt_mid s st.journal ss m ∙ says in (
            session_there st k around.there s st.journal ss m,
            ap (λ (u : Session). u.said + 1) (sym is),
            (subst (λ (u : Session). u.since ≤ st.moment) (sym is) old, subst (λ (u : Session). st.moment ≤ unwrap_or u.first m) (sym is) (first_le answer le)),
            elim allowed [
              | inl e ↦ inl (ap (next_of before_reply k) mine ∙ e)
              | inr f ↦ inr (subst (λ (o : Option Stmt). IsFree before_reply k o (reply_of answer)) (sym mine) f)
            ],
          )
        where
          first_le : (a : Answer) → st.moment ≤ m → st.moment ≤ unwrap_or (first_of a st.moment) m
          first_le (AtOnce r) le = le
          first_le (UnderAll md r) le = omega arith
          first_le (UnderTable n md r) le = omega arith

    module _ (ss : List Snap) (turned : List Event) (moves : Moves turned st.snaps ss) (answer : Answer) where
      abbrev total : ℕ
      total = st.moment + length (lock_events k answer) + length turned

      abbrev pub all_events : List Event
      all_events = statement_events k (said + 1) st.moment answer turned

      counted_all : total + 1 ≡ st.moment + length all_events
      counted_all = simp length-append (omega arith)

      abbrev pub journal_after : IsPlain stmt (reply_of answer) → List Entry
      journal_after plain = (effects_of ss answer total plain).journal

      -- where all events lead
      pub leads_all : (plain : IsPlain stmt (reply_of answer)) → end_from st all_events ≡ mid st k (idle (said + 1) (current_after stmt (reply_of answer) current) gone (st.moment + length all_events)) (journal_after plain) ss (st.moment + length all_events)
      leads_all plain =
          let rest : List Event = turned ++ Said (number k) (said + 1) st.moment (reply_of answer) ∷ [] in
          end_append st (lock_events k answer) rest
          ∙ ap (λ (x : Plain). end_from x rest) (locked answer)
          ∙ end_append (within_locks answer) turned (Said (number k) (said + 1) st.moment (reply_of answer) ∷ [])
          ∙ ap (λ (x : Plain). after x (Said (number k) (said + 1) st.moment (reply_of answer))) (moves.leads (within_locks answer) refl)
          ∙ replied ss answer total plain
          ∙ ap (λ (n : ℕ). mid st k (idle (said + 1) (current_after stmt (reply_of answer) current) gone n) (journal_after plain) ss n) counted_all

      module _ (seen : Seen) (lost : is_lost st.snaps opening.source ≡ false) (lost' : is_lost ss opening.source ≡ false) (over : source opening st.journal ≡ seen.source) (copied : (snap : List ℕ) → copy opening st.journal snap ≡ seen.copies snap) (old : since ≤ st.moment) where
        ready_now : (locks : Locks) (first : Option ℕ) (m : ℕ) → Ready opening current seen (mid st k (busy said current gone since locks first None) st.journal st.snaps m) k locks
        ready_now locks first m = ready_mid said current gone since locks first st.journal st.snaps m seen lost over copied

        wants : (locks : Locks) (first : Option ℕ) (m : ℕ) (name : LockName) (mode : Mode) → next_of (mid st k (busy said current gone since locks first None) st.journal st.snaps m) k (Some stmt) ≡ Wants name mode →
            MayCome (mid st k (busy said current gone since locks first None) st.journal st.snaps m) (Locked (number k) name mode)
        wants locks first m name mode e =
            let s : Session = busy said current gone since locks first None in
            (session_there st k around.there s st.journal st.snaps m, ap (next_of (mid st k s st.journal st.snaps m) k) (stmt_mid s st.journal st.snaps m ∙ says) ∙ e)

        locks_legal : (a : Answer) → Comes opening current seen ss stmt a → LegalFrom st (lock_events k a)
        locks_legal (AtOnce r) comes = tt
        locks_legal (UnderAll mode r) comes =
            subst (λ (x : Plain). LegalFrom x (lock_events k (UnderAll mode r))) (sym begin) (wants [] None st.moment All mode (comes.0 (mid st k (busy said current gone since [] None None) st.journal st.snaps st.moment) k (ready_now [] None st.moment)), tt)
        locks_legal (UnderTable name mode r) comes =
            let x0 : Plain = mid st k (busy said current gone since [] None None) st.journal st.snaps st.moment in
            let x1 : Plain = mid st k (busy said current gone since ((All, S) ∷ []) (Some st.moment) None) st.journal st.snaps (st.moment + 1) in
            let second : MayCome x1 (Locked (number k) (Table name) mode) = wants ((All, S) ∷ []) (Some st.moment) (st.moment + 1) (Table name) mode (comes.1 x1 k (ready_now ((All, S) ∷ []) (Some st.moment) (st.moment + 1))) in
            subst (λ (x : Plain). LegalFrom x (lock_events k (UnderTable name mode r))) (sym begin) (
              wants [] None st.moment All S (comes.0 x0 k (ready_now [] None st.moment)),
              (subst (λ (x : Plain). MayCome x (Locked (number k) (Table name) mode)) (sym (after_lock st k around.there (busy said current gone since [] None None) st.journal st.snaps st.moment All S)) second, tt),
            )

        reply_allowed : (a : Answer) (m : ℕ) → Comes opening current seen ss stmt a → Allowed (mid st k (busy said current gone since (locks_of a) (first_of a st.moment) None) st.journal ss m) k stmt (reply_of a)
        reply_allowed (AtOnce r) m comes = comes (mid st k (busy said current gone since [] None None) st.journal ss m) k (ready_mid said current gone since [] None st.journal ss m seen lost' over copied) refl
        reply_allowed (UnderAll mode r) m comes = comes.1 (mid st k (busy said current gone since ((All, mode) ∷ []) (Some st.moment) None) st.journal ss m) k (ready_mid said current gone since ((All, mode) ∷ []) (Some st.moment) st.journal ss m seen lost' over copied)
        reply_allowed (UnderTable name mode r) m comes = comes.2 (mid st k (busy said current gone since ((Table name, mode) ∷ (All, S) ∷ []) (Some st.moment) None) st.journal ss m) k (ready_mid said current gone since ((Table name, mode) ∷ (All, S) ∷ []) (Some st.moment) st.journal ss m seen lost' over copied)

        -- all events may come
        pub legal_all : Comes opening current seen ss stmt answer → LegalFrom st all_events
        legal_all comes =
            let rest : List Event = turned ++ Said (number k) (said + 1) st.moment (reply_of answer) ∷ [] in
            let last : MayCome (before_reply ss answer total) (Said (number k) (said + 1) st.moment (reply_of answer)) = may_reply ss answer total old (omega arith) (reply_allowed answer total comes) in
            legal_append st (lock_events k answer) rest (locks_legal answer comes)
            (subst (λ (x : Plain). LegalFrom x rest) (sym (locked answer))
            (legal_append (within_locks answer) turned (Said (number k) (said + 1) st.moment (reply_of answer) ∷ []) (moves.legal (within_locks answer) refl)
            (subst (λ (x : Plain). LegalFrom x (Said (number k) (said + 1) st.moment (reply_of answer) ∷ [])) (sym (moves.leads (within_locks answer) refl)) (last, tt))))
