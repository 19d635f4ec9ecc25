-- Each event that may come is one step: it changes one session, and the rest as its kind says.
use Rattle.std.proofs.Common.{◌≡◌, ◌≢◌, ◌+◌, ◌-◌, ◌<◌, ◌≤◌, ◌⊎◌, inl, inr, ℕ, Bool, true, false, ◌||◌, nat_le, cond, IsTrue, List, [], ◌∷◌, length, map, get_or, refl, ap, sym, ◌∙◌, subst, arith, length-set}
use Rattle.std.specs.Prelude.{Option, Some, None, ◌==◌}
use Rattle.std.specs.Str.{bytes_eq}
use Rattle.std.proofs.Math.ListN.{set}
use Rattle.std.proofs.lemmas.Bool.{leb-true, eqb-true, and_parts, or_parts, or_from}
use Rattle.std.proofs.lemmas.List.{get_or-set_same, get_or-set_other}
use Rattle.std.proofs.lemmas.List.Folds.{list_any-append}
use Rattle.page_base.specs.declared.numbers.Mode.{Mode}
use Rattle.page_base.specs.declared.numbers.SessNo.{SessNo}
use Rattle.plain_model.specs.declared.stmt.Level.{Level}
use Rattle.plain_model.specs.declared.stmt.Stmt.{Stmt}
use Rattle.plain_model.specs.declared.event.Event.{Event}
use Rattle.plain_model.specs.declared.event.Event.TheVariants.{Locked, CutAt, RestoreAt, Turned, Said, Left}
use Rattle.plain_model.specs.declared.event.LockName.{LockName}
use Rattle.plain_model.specs.declared.reply.Reply.{Reply}
use Rattle.plain_model.specs.State.{Plain, Session, Snap, fresh_session, session, stmt_of, is_session, is_source, is_snap, master}
use Rattle.plain_model.specs.Holding.{is_in_the_way}
use Rattle.plain_model.specs.Keeping.{kept_at, kept_locks, with_gain}
use Rattle.plain_model.specs.Next.{Replies, Wants, Cuts, Restores, Silent, next, next_of}
use Rattle.plain_model.specs.Free.{IsFree}
use Rattle.plain_model.specs.Legal.{MayCome, after, effect, answered, counted, with_first, with_session, without_restoring, turned, new_names}
use Rattle.plain_steps.proofs.LockLemmas.{free_of}
use Rattle.plain_steps.proofs.GainLemmas.{Gains, Begins, gains, cuts, begins}
use Rattle.plain_steps.proofs.StepLemmas.{at, named, History, Waits, Ends, CutsOff, Current, Same, Leaves, Leveled, Effected, effected}

-- what a reply leaves of its session's locks
pub record Replied (st : Plain) (k : ℕ) (s : Session) : Type 0 where
  pub kept : ((level : Level) × (s.locks ≡ kept_at level (session st k).gained (session st k).locks) × (level ≡ s.level)) ⊎ ((s.locks ≡ []) × (s.depth ≡ 0))
  pub gained : s.gained ≡ []

-- what becomes of the session's locks
pub data Locking (st : Plain) (k : ℕ) (s : Session) : Type 0 where
  Gained : (name : LockName) (mode : Mode) → Gains st k name mode → (1 ≤ k) × (k ≤ length st.sessions) → (stmt_of st k ≡ None → ⊥) → ((i : ℕ) → i ≢ k - 1 → is_in_the_way (at st i).locks name mode ≡ false) →
      s.locks ≡ (name, mode) ∷ (session st k).locks → s.gained ≡ with_gain name mode (session st k).gained → Locking st k s
  Stayed : s.locks ≡ (session st k).locks → s.gained ≡ (session st k).gained → Locking st k s
  Answered : Replied st k s → Locking st k s

-- what becomes of a revert
pub data Reverting (st : Plain) (k depth : ℕ) (restoring : Option (ℕ × List ℕ)) : Type 0 where
  Goes : restoring ≡ st.restoring → (depth ≡ (session st k).depth) ⊎ (depth ≡ 0) → Reverting st k depth restoring
  Over : 1 ≤ k → restoring ≡ without_restoring k st.restoring → Reverting st k depth restoring
  Begun : (snap : List ℕ) → 1 ≤ k → restoring ≡ Some (k, snap) → Begins st k → depth ≡ (session st k).depth → Reverting st k depth restoring

-- one event
pub record Step (st st' : Plain) (k : ℕ) : Type 0 where
  pub s : Session
  pub here : at st' (k - 1) ≡ s
  pub others : (i : ℕ) → i ≢ k - 1 → at st' i ≡ at st i
  pub size : length st'.sessions ≡ length st.sessions
  pub opening : st'.opening ≡ st.opening
  pub scripts : st'.scripts ≡ st.scripts
  pub said : stmt_of st k ≡ None → s.said ≡ (session st k).said
  pub locks : Locking st k s
  pub history : History st k s.work s.depth st'.journal
  pub current : Current st k s.current
  pub level : Leveled st k s.depth s.level
  pub restoring : Reverting st k s.depth st'.restoring
  pub snaps : named st.snaps st.opening.source ≡ false → named st'.snaps st.opening.source ≡ false

-- the session that an event is of; none for a snapshot that turned suspect
abbrev pub who_of : Event → ℕ
who_of (Locked who table mode) = who.0
who_of (CutAt who snap) = who.0
who_of (RestoreAt who snap) = who.0
who_of (Turned snap) = 0
who_of (Said who number began reply) = who.0
who_of (Left who) = who.0

-- the numbers of sessions
pub numbered : (st : Plain) (k : ℕ) → IsTrue (is_session st k) → (1 ≤ k) × (k ≤ length st.sessions)
numbered st k there = let h = and_parts (nat_le 1 k) (nat_le k (length st.sessions)) there in (leb-true 1 k h.0, leb-true k (length st.sessions) h.1)

module _ (st : Plain) (k : ℕ) (there : IsTrue (is_session st k)) where
  within : k - 1 < length st.sessions
  within = let n = numbered st k there in omega (arith, n.0, n.1)

  set_here : (s : Session) → get_or (set st.sessions (k - 1) s) (k - 1) fresh_session ≡ s
  set_here s = get_or-set_same st.sessions (k - 1) s fresh_session within

  set_there : (s : Session) (i : ℕ) → i ≢ k - 1 → get_or (set st.sessions (k - 1) s) i fresh_session ≡ at st i
  set_there s i ne = get_or-set_other st.sessions (k - 1) i s fresh_session ne

-- the session of this number
abbrev number_of : ℕ → SessNo
number_of k = record { 0 = k }

-- A LOCK

locked_step : (st : Plain) (k : ℕ) (table : LockName) (mode : Mode) → IsTrue (is_session st k) → next st k ≡ Wants table mode → (s : Session) → s ≡ with_first st (record (session st k) { locks = (table, mode) ∷ (session st k).locks; gained = with_gain table mode (session st k).gained }) → Step st (counted (with_session st k s)) k
locked_step st k table mode there e s is =
    let n = numbered st k there in
    let g = gains st k table mode e in
    record {
      s = s;
      here = set_here st k there s;
      others = set_there st k there s;
      size = length-set st.sessions (k - 1) s;
      opening = refl;
      scripts = refl;
      said = λ h. ap (λ (u : Session). u.said) is;
      locks = Gained table mode g n (λ none. absurd (let x : Silent ≡ Wants table mode = sym (ap (next_of st k) none) ∙ e in cc)) (free_of st k table mode n.0 g.wanted.free) (ap (λ (u : Session). u.locks) is) (ap (λ (u : Session). u.gained) is);
      history = Waits refl (ap (λ (u : Session). u.work) is) (λ z. sym (ap (λ (u : Session). u.depth) is) ∙ z);
      current = Same (ap (λ (u : Session). u.current) is);
      level = inl (ap (λ (u : Session). u.depth) is, ap (λ (u : Session). u.level) is);
      restoring = Goes refl (inl (ap (λ (u : Session). u.depth) is));
      snaps = λ h. h;
    }

-- A CUT

cut_step : (st : Plain) (k : ℕ) (snap : List ℕ) → IsTrue (is_session st k) → next st k ≡ Cuts snap → Step st (after st (CutAt (number_of k) snap)) k
cut_step st k snap there e =
    let s : Session = with_first st (record (session st k) { making = Some snap }) in
    let free = cuts st k snap e in
    let p = or_parts (bytes_eq snap master) (is_source st snap || is_snap st snap) free in
    let q = or_parts (is_source st snap) (is_snap st snap) p.1 in
    let new : Snap = record { name = snap; files = new_names (stmt_of st k); cut = st.next_cut; suspect = false } in
    record {
      s = s;
      here = set_here st k there s;
      others = set_there st k there s;
      size = length-set st.sessions (k - 1) s;
      opening = refl;
      scripts = refl;
      said = λ h. refl;
      locks = Stayed refl refl;
      history = CutsOff snap refl refl refl;
      current = Same refl;
      level = inl (refl, refl);
      restoring = Goes refl (inl refl);
      snaps = λ h. list_any-append (λ x. bytes_eq x.name st.opening.source) st.snaps (new ∷ []) ∙ or_from (named st.snaps st.opening.source) (bytes_eq snap st.opening.source || false) h (or_from (bytes_eq snap st.opening.source) false q.0 refl);
    }

-- A REVERT BEGINS

restore_step : (st : Plain) (k : ℕ) (snap : List ℕ) → IsTrue (is_session st k) → next st k ≡ Restores snap → Step st (after st (RestoreAt (number_of k) snap)) k
restore_step st k snap there e =
    let s : Session = with_first st (session st k) in
    let n = numbered st k there in
    record {
      s = s;
      here = set_here st k there s;
      others = set_there st k there s;
      size = length-set st.sessions (k - 1) s;
      opening = refl;
      scripts = refl;
      said = λ h. refl;
      locks = Stayed refl refl;
      history = Waits refl refl (λ z. z);
      current = Same refl;
      level = inl (refl, refl);
      restoring = Begun snap n.0 refl (begins st k snap n.0 e) refl;
      snaps = λ h. h;
    }

-- A SNAPSHOT TURNS SUSPECT

turned_named : (snap d : List ℕ) (ss : List Snap) → named ss d ≡ false → named (map (turned snap) ss) d ≡ false
turned_named snap d [] h = h
turned_named snap d (s ∷ ss) h =
    let p = or_parts (bytes_eq s.name d) (named ss d) h in
    or_from (bytes_eq (turned snap s).name d) (named (map (turned snap) ss) d) (by (bytes_eq s.name snap) p.0) (turned_named snap d ss p.1)
  where
    by : (b : Bool) → bytes_eq s.name d ≡ false → bytes_eq (cond b (record s { suspect = true }) s).name d ≡ false
    by true e = e
    by false e = e

turned_step : (st : Plain) (snap : List ℕ) → Step st (after st (Turned snap)) 0
turned_step st snap = record {
  s = at st 0;
  here = refl;
  others = λ i ne. refl;
  size = refl;
  opening = refl;
  scripts = refl;
  said = λ h. refl;
  locks = Stayed refl refl;
  history = Waits refl refl (λ z. z);
  current = Same refl;
  level = inl (refl, refl);
  restoring = Goes refl (inl refl);
  snaps = λ h. turned_named snap st.opening.source st.snaps h;
}

-- A REPLY

-- the session, answered
abbrev pub done : ℕ → ℕ → Session → Session
done number since t = record t { said = number; making = None; locks = kept_locks t; gained = []; since = since; first = None }

said_locks : (st : Plain) (k number since : ℕ) (t : Session) → t.locks ≡ (session st k).locks → t.gained ≡ (session st k).gained → Replied st k (done number since t)
said_locks st k number since t locks gained = record { kept = by (t.depth == 0) refl; gained = refl }
  where
    by : (b : Bool) → (t.depth == 0) ≡ b → ((level : Level) × (cond b [] (kept_at t.level t.gained t.locks) ≡ kept_at level (session st k).gained (session st k).locks) × (level ≡ t.level)) ⊎ ((cond b [] (kept_at t.level t.gained t.locks) ≡ []) × (t.depth ≡ 0))
    by true e = inr (refl, eqb-true t.depth 0 e)
    by false e = inl (t.level, ap (λ g. kept_at t.level g t.locks) gained ∙ ap (kept_at t.level (session st k).gained) locks, refl)

-- a reply frees locks and ends a revert of its session
pub record ReplyStep (st st' : Plain) (k : ℕ) : Type 0 where
  pub step : Step st st' k
  pub replied : Replied st k step.s

effected_step : (st x : Plain) (k number : ℕ) → IsTrue (is_session st k) → (stmt_of st k ≡ None → ⊥) → Effected st k x → ReplyStep st (counted (answered x k number)) k
effected_step st x k number there says h =
    let n = numbered st k there in
    let is : session x k ≡ h.t = ap (λ (l : List Session). get_or l (k - 1) fresh_session) h.sessions ∙ set_here st k there h.t in
    let s : Session = done number (x.moment + 1) h.t in
    let size : length x.sessions ≡ length st.sessions = ap length h.sessions ∙ length-set st.sessions (k - 1) h.t in
    let inside : k - 1 < length x.sessions = omega (arith, n.0, n.1, size) in
    let kept : Replied st k s = said_locks st k number (x.moment + 1) h.t h.locks h.gained in
    record {
      step = record {
        s = s;
        here = get_or-set_same x.sessions (k - 1) (done number (x.moment + 1) (session x k)) fresh_session inside ∙ ap (done number (x.moment + 1)) is;
        others = λ i ne. get_or-set_other x.sessions (k - 1) i (done number (x.moment + 1) (session x k)) fresh_session ne ∙ ap (λ (l : List Session). get_or l i fresh_session) h.sessions ∙ set_there st k there h.t i ne;
        size = length-set x.sessions (k - 1) (done number (x.moment + 1) (session x k)) ∙ size;
        opening = h.opening;
        scripts = h.scripts;
        said = λ none. absurd (says none);
        locks = Answered kept;
        history = h.history;
        current = h.current;
        level = h.level;
        restoring = Over n.0 (ap (without_restoring k) h.restoring);
        snaps = h.snaps st.opening.source;
      };
      replied = kept;
    }

-- a reply comes of a statement
pub of_said : (st : Plain) (k : ℕ) (o : Option Stmt) (r : Reply) → (next_of st k o ≡ Replies r) ⊎ IsFree st k o r → (stmt : Stmt) × (o ≡ Some stmt) × ((next_of st k (Some stmt) ≡ Replies r) ⊎ IsFree st k (Some stmt) r)
of_said st k (Some stmt) r h = (stmt, refl, h)
of_said st k None r (inl e) = absurd (cc)
of_said st k None r (inr f) = absurd (no_free f)
  where
    no_free : IsFree st k None r → ⊥
    no_free f = elim f [ ]

-- a reply that may come
pub said_step : (st : Plain) (k number began : ℕ) (who : SessNo) (r : Reply) → MayCome st (Said who number began r) → who.0 ≡ k → ReplyStep st (after st (Said who number began r)) k
said_step st k number began who r may is =
    let h = of_said st who.0 (stmt_of st who.0) r may.3 in
    subst (λ n. ReplyStep st (after st (Said who number began r)) n) is
    (effected_step st (effect st who.0 (stmt_of st who.0) r) who.0 number may.0 (λ none. absurd (let x : None ≡ Some h.0 = sym none ∙ h.1 in cc))
    (subst (λ (o : Option Stmt). Effected st who.0 (effect st who.0 o r)) (sym h.1) (effected st who.0 h.0 r h.1 h.2)))

-- A SESSION ENDS

left_step : (st : Plain) (k : ℕ) → IsTrue (is_session st k) → stmt_of st k ≡ None → Step st (after st (Left (number_of k))) k
left_step st k there none =
    let s : Session = record (session st k) { current = master; depth = 0; work = []; locks = []; gained = []; gone = true } in
    record {
      s = s;
      here = set_here st k there s;
      others = set_there st k there s;
      size = length-set st.sessions (k - 1) s;
      opening = refl;
      scripts = refl;
      said = λ h. refl;
      locks = Answered (record { kept = inr (refl, refl); gained = refl });
      history = Ends refl refl;
      current = Leaves none;
      level = inr (λ stmt e. absurd (let x : None ≡ Some stmt = sym none ∙ e in cc));
      restoring = Goes refl (inr refl);
      snaps = λ h. h;
    }

-- ANY EVENT

-- each event that may come
pub step : (st : Plain) (e : Event) → MayCome st e → Step st (after st e) (who_of e)
step st (Locked who table mode) may = locked_step st who.0 table mode may.0 may.1 (with_first st (record (session st who.0) { locks = (table, mode) ∷ (session st who.0).locks; gained = with_gain table mode (session st who.0).gained })) refl
step st (CutAt who snap) may = cut_step st who.0 snap may.0 may.1
step st (RestoreAt who snap) may = restore_step st who.0 snap may.0 may.1
step st (Turned snap) may = turned_step st snap
step st (Said who number began reply) may = (said_step st who.0 number began who reply may refl).step
step st (Left who) may = left_step st who.0 may.0 may.1
