-- One event of a legal history, as far as the laws look: which session it changes, and what it does to the session's
-- locks, to the journal, to the snapshots' names and to a revert.
use Rattle.std.proofs.Common.{◌≡◌, ◌+◌, ◌-◌, ◌⊎◌, inl, inr, ℕ, Bool, true, false, ◌||◌, not, nat_le, cond, List, [], ◌∷◌, ◌++◌, length, get_or, refl, sym, subst, arith}
use Rattle.std.specs.Prelude.{Option, Some, None, ◌==◌, option_map, filter}
use Rattle.std.specs.List.{list_any}
use Rattle.std.specs.Str.{bytes_eq}
use Rattle.std.proofs.Math.ListN.{set}
use Rattle.std.proofs.lemmas.Bool.{leb-true, eqb-true, eqb-false, or_parts, or_from}
use Rattle.std.proofs.lemmas.List.{set-get_or}
use Rattle.page_base.specs.declared.value.Value.{Value}
use Rattle.plain_model.specs.declared.stmt.Level.{Level}
use Rattle.plain_model.specs.declared.stmt.Stmt.{Stmt}
use Rattle.plain_model.specs.declared.stmt.Stmt.TheVariants.{UseDb, CreateTable, DropTable, Insert, Update, Delete, BeginTran, Commit, Rollback, SetLevel, CreateSnap, DropDb, Restore}
use Rattle.plain_model.specs.declared.reply.Message.{Message}
use Rattle.plain_model.specs.declared.reply.Reply.{Reply}
use Rattle.plain_model.specs.declared.reply.Reply.TheVariants.{Ok, Count, Rows, Msg}
use Rattle.plain_model.specs.declared.reply.TheConstants.Message.{NO_MEMORY, FILE_FAILED, FILE_NOT_REMOVED, LOG_FAILED, NO_DATABASE, RESTORING, BEING_MADE, SUSPECT, OTHER_SNAPSHOT, IN_USE}
use Rattle.plain_model.specs.Messages.{plain, at_place, of_name}
use Rattle.plain_model.specs.Tables.{Change}
use Rattle.plain_model.specs.Journal.{Entry, Committed, Cut, Dropped, Reverted}
use Rattle.plain_model.specs.Meaning.{shape, change_and_reply}
use Rattle.plain_model.specs.State.{Plain, Session, Snap, fresh_session, session, stmt_of, see, is_suspect, is_being_made, is_restoring, restored, files_of}
use Rattle.plain_model.specs.Users.{in_use_by, other_snap}
use Rattle.plain_model.specs.Next.{Next, Replies, Restores, unless, unless_shape, is_database, next_of, next_stmt, no_restore, next_restore, sparse_names}
use Rattle.plain_model.specs.Free.{IsFree, is_of_tables}
use Rattle.plain_model.specs.Legal.{effect, with_changes, with_session, outside, after_commit, uncommitted, without_snap, without_made, unmade, with_doubt, without_names, undropped, reverted}
use Rattle.plain_steps.proofs.ComingLemmas.{IsQuiet, Writes, Under, passed, shaped, same_reply, quiet_reply, free_loud, of_built, well_changed, well_defined, create_good, drop_good}

-- the session at a place
abbrev pub at : Plain → ℕ → Session
at st i = get_or st.sessions i fresh_session

-- a snapshot of this name is open
abbrev pub named : List Snap → List ℕ → Bool
named snaps d = list_any (λ s. bytes_eq s.name d) snaps

-- WHAT BECOMES OF THE JOURNAL, OF THE SESSION'S OWN CHANGES AND ITS DEPTH

-- its changes wait or are gone, they are committed at once or at its COMMIT, or the journal gets a cut, a drop or a revert
pub data History (st : Plain) (k : ℕ) (work : List Change) (depth : ℕ) (journal : List Entry) : Type 0 where
  Waits : journal ≡ st.journal → work ≡ (session st k).work → (depth ≡ 0 → (session st k).depth ≡ 0) → History st k work depth journal
  Ends : journal ≡ st.journal → work ≡ [] → History st k work depth journal
  Adds : (stmt : Stmt) → stmt_of st k ≡ Some stmt → Writes st k stmt → shape stmt (see st k) ≡ None → ((session st k).depth ≡ 0 → ⊥) → depth ≡ (session st k).depth → journal ≡ st.journal →
      work ≡ (session st k).work ++ (change_and_reply stmt (see st k)).0 → History st k work depth journal
  Puts : (stmt : Stmt) → stmt_of st k ≡ Some stmt → Under st k stmt → shape stmt (see st k) ≡ None → (session st k).depth ≡ 0 → work ≡ (session st k).work →
      journal ≡ Committed k (change_and_reply stmt (see st k)).0 ∷ st.journal → History st k work depth journal
  Commits : journal ≡ Committed k (session st k).work ∷ st.journal → work ≡ [] → depth ≡ 0 → History st k work depth journal
  CutsOff : (snap : List ℕ) → journal ≡ Cut snap ∷ st.journal → work ≡ (session st k).work → depth ≡ (session st k).depth → History st k work depth journal
  Drops : (snap : List ℕ) → journal ≡ Dropped snap ∷ st.journal → work ≡ (session st k).work → depth ≡ (session st k).depth → History st k work depth journal
  Reverts : (snap begun : List ℕ) → restored st k ≡ Some begun → journal ≡ Reverted snap ∷ st.journal → work ≡ (session st k).work → depth ≡ (session st k).depth → History st k work depth journal

-- what becomes of its current database
pub data Current (st : Plain) (k : ℕ) (current : List ℕ) : Type 0 where
  Same : current ≡ (session st k).current → Current st k current
  Enters : is_restoring st current ≡ false → Current st k current
  Leaves : stmt_of st k ≡ None → Current st k current

-- its depth and its level stay, or its statement is about no tables
abbrev pub Leveled : Plain → ℕ → ℕ → Level → Type 0
Leveled st k depth level = ((depth ≡ (session st k).depth) × (level ≡ (session st k).level)) ⊎ ((stmt : Stmt) → stmt_of st k ≡ Some stmt → is_of_tables stmt ≡ false)

-- a statement that is about no tables is the one that comes
pub no_tables : (st : Plain) (k : ℕ) (o : Stmt) → stmt_of st k ≡ Some o → is_of_tables o ≡ false → (stmt : Stmt) → stmt_of st k ≡ Some stmt → is_of_tables stmt ≡ false
no_tables st k o says off stmt e = let same : o ≡ stmt = cc in subst (λ (x : Stmt). is_of_tables x ≡ false) same off

-- THE EFFECT OF A REPLY

-- what the effect of a reply leaves, before its statement ends
pub record Effected (st : Plain) (k : ℕ) (st' : Plain) : Type 0 where
  pub t : Session
  pub sessions : st'.sessions ≡ set st.sessions (k - 1) t
  pub opening : st'.opening ≡ st.opening
  pub scripts : st'.scripts ≡ st.scripts
  pub restoring : st'.restoring ≡ st.restoring
  pub locks : t.locks ≡ (session st k).locks
  pub gained : t.gained ≡ (session st k).gained
  pub current : Current st k t.current
  pub level : Leveled st k t.depth t.level
  pub history : History st k t.work t.depth st'.journal
  pub snaps : (d : List ℕ) → named st.snaps d ≡ false → named st'.snaps d ≡ false

fewer_named : (d snap : List ℕ) (ss : List Snap) → named ss d ≡ false → named (filter (λ s. not (bytes_eq s.name snap)) ss) d ≡ false
fewer_named d snap [] h = h
fewer_named d snap (s ∷ ss) h =
    let p = or_parts (bytes_eq s.name d) (named ss d) h in
    by (bytes_eq s.name snap) p.0 (fewer_named d snap ss p.1)
  where
    by : (b : Bool) → bytes_eq s.name d ≡ false → named (filter (λ s. not (bytes_eq s.name snap)) ss) d ≡ false → named (cond (not b) (s ∷ filter (λ s. not (bytes_eq s.name snap)) ss) (filter (λ s. not (bytes_eq s.name snap)) ss)) d ≡ false
    by true e rest = rest
    by false e rest = or_from (bytes_eq s.name d) (named (filter (λ s. not (bytes_eq s.name snap)) ss) d) e rest

module _ (st : Plain) (k : ℕ) where
  own : st.sessions ≡ set st.sessions (k - 1) (session st k)
  own = sym (set-get_or st.sessions (k - 1) fresh_session)

  rests : (on doubt : List (List ℕ)) → Effected st k (record st { on_volume = on; in_doubt = doubt })
  rests on doubt = record {
    t = session st k;
    sessions = own;
    opening = refl;
    scripts = refl;
    restoring = refl;
    locks = refl;
    gained = refl;
    current = Same refl;
    level = inl (refl, refl);
    history = Waits refl refl (λ e. e);
    snaps = λ d h. h;
  }

  turns : (t : Session) → t.locks ≡ (session st k).locks → t.gained ≡ (session st k).gained → Current st k t.current → Leveled st k t.depth t.level → History st k t.work t.depth st.journal → Effected st k (with_session st k t)
  turns t locks gained current level history = record {
    t = t;
    sessions = refl;
    opening = refl;
    scripts = refl;
    restoring = refl;
    locks = locks;
    gained = gained;
    current = current;
    level = level;
    history = history;
    snaps = λ d h. h;
  }

  commits : stmt_of st k ≡ Some Commit → Effected st k (record (with_session st k (outside (session st k))) { journal = Committed k (session st k).work ∷ st.journal })
  commits says = record {
    t = outside (session st k);
    sessions = refl;
    opening = refl;
    scripts = refl;
    restoring = refl;
    locks = refl;
    gained = refl;
    current = Same refl;
    level = inr (no_tables st k Commit says refl);
    history = Commits refl refl refl;
    snaps = λ d h. h;
  }

  drops : (snap : List ℕ) (on doubt : List (List ℕ)) → Effected st k (record (without_snap st snap) { on_volume = on; in_doubt = doubt })
  drops snap on doubt = record {
    t = session st k;
    sessions = own;
    opening = refl;
    scripts = refl;
    restoring = refl;
    locks = refl;
    gained = refl;
    current = Same refl;
    level = inl (refl, refl);
    history = Drops snap refl refl refl;
    snaps = λ d h. fewer_named d snap st.snaps h;
  }

  reverts : (snap begun : List ℕ) → restored st k ≡ Some begun → Effected st k (reverted st snap)
  reverts snap begun e = record {
    t = session st k;
    sessions = own;
    opening = refl;
    scripts = refl;
    restoring = refl;
    locks = refl;
    gained = refl;
    current = Same refl;
    level = inl (refl, refl);
    history = Reverts snap begun e refl refl refl;
    snaps = λ d h. h;
  }

  module _ (stmt : Stmt) (says : stmt_of st k ≡ Some stmt) where
    changes : Under st k stmt → shape stmt (see st k) ≡ None → Effected st k (with_changes st k (change_and_reply stmt (see st k)).0)
    changes under fits = by ((session st k).depth == 0) refl under
      where
        puts : (session st k).depth ≡ 0 → Under st k stmt → Effected st k (record st { journal = Committed k (change_and_reply stmt (see st k)).0 ∷ st.journal })
        puts out under = record {
          t = session st k;
          sessions = own;
          opening = refl;
          scripts = refl;
          restoring = refl;
          locks = refl;
          gained = refl;
          current = Same refl;
          level = inl (refl, refl);
          history = Puts stmt says under fits out refl refl;
          snaps = λ d h. h;
        }

        by : (b : Bool) → ((session st k).depth == 0) ≡ b → Under st k stmt →
            Effected st k (cond b (record st { journal = Committed k (change_and_reply stmt (see st k)).0 ∷ st.journal }) (with_session st k (record (session st k) { work = (session st k).work ++ (change_and_reply stmt (see st k)).0 })))
        by true e under = puts (eqb-true (session st k).depth 0 e) under
        by false e (inl w) = turns (record (session st k) { work = (session st k).work ++ (change_and_reply stmt (see st k)).0 }) refl refl (Same refl) (inl (refl, refl)) (Adds stmt says w fits (eqb-false (session st k).depth 0 e) refl refl refl)
        by false e (inr d) = absurd (eqb-false (session st k).depth 0 e d.outside)

  inner_commit : stmt_of st k ≡ Some Commit → Effected st k (after_commit st k)
  inner_commit says = by (nat_le 2 (session st k).depth) refl
    where
      by : (b : Bool) → nat_le 2 (session st k).depth ≡ b → Effected st k (cond b (with_session st k (record (session st k) { depth = (session st k).depth - 1 })) (record (with_session st k (outside (session st k))) { journal = Committed k (session st k).work ∷ st.journal }))
      by true e = turns (record (session st k) { depth = (session st k).depth - 1 }) refl refl (Same refl) (inr (no_tables st k Commit says refl)) (Waits refl refl (λ z. let two = leb-true 2 (session st k).depth e in absurd (omega (arith, two, z))))
      by false e = commits says

  no_commit : stmt_of st k ≡ Some Commit → (m : Message) → Effected st k (uncommitted st k m)
  no_commit says m = elim (m.number == NO_MEMORY || m.number == LOG_FAILED) as (λ b. Effected st k (cond b (with_session st k (outside (session st k))) st)) [
    | true ↦ turns (outside (session st k)) refl refl (Same refl) (inr (no_tables st k Commit says refl)) (Ends refl refl)
    | false ↦ rests st.on_volume st.in_doubt
  ]

  not_made : (names : List (List ℕ)) (m : Message) → Effected st k (unmade st k names m)
  not_made names m = elim (m.number == FILE_FAILED) as (λ b. Effected st k (cond b (with_doubt (without_made st (session st k).making) names) st)) [
    | true ↦ by (session st k).making
    | false ↦ rests st.on_volume st.in_doubt
  ]
    where
      by : (o : Option (List ℕ)) → Effected st k (with_doubt (without_made st o) names)
      by None = rests (without_names names st.on_volume) (names ++ st.in_doubt)
      by (Some snap) = drops snap (without_names names st.on_volume) (names ++ st.in_doubt)

  not_dropped : (d : List ℕ) (m : Message) → Effected st k (undropped st d m)
  not_dropped d m = elim (m.number == FILE_NOT_REMOVED) as (λ b. Effected st k (cond b (with_doubt (without_snap st d) (files_of st d)) st)) [
    | true ↦ drops d (without_names (files_of st d) st.on_volume) (files_of st d ++ st.in_doubt)
    | false ↦ rests st.on_volume st.in_doubt
  ]

  -- a refusal
  refuses : (stmt : Stmt) (m : Message) → stmt_of st k ≡ Some stmt → Effected st k (effect st k (Some stmt) (Msg m))
  refuses (CreateSnap snap files of) m says = not_made (sparse_names files) m
  refuses Commit m says = no_commit says m
  refuses (DropDb d) m says = not_dropped d m
  refuses stmt m says = rests st.on_volume st.in_doubt

  restore_replied : (o : Option (List ℕ)) (d snap : List ℕ) (r : Reply) → ((m : Message) → r ≡ Msg m → ⊥) → IsQuiet (Replies r) → next_restore st k o d snap ≡ Replies r → (begun : List ℕ) × (o ≡ Some begun)
  restore_replied (Some begun) d snap r refused q e = (begun, refl)
  restore_replied None d snap r refused q e =
      let users : Option Message = option_map (at_place IN_USE) (in_use_by st k d snap) in
      let checks : List (Bool × Message) = (is_being_made st snap, plain BEING_MADE) ∷ (is_suspect st snap, plain SUSPECT) ∷ [] in
      let others : Option Message = option_map (λ s. of_name OTHER_SNAPSHOT s.name) (other_snap st snap) in
      let last : Next = unless_shape users (Restores snap) in
      let a = passed (Replies r) (unless_shape others (unless checks last)) (no_restore st k d snap) q (refl, (refl, (refl, (refl, (refl, tt))))) e in
      elim (shaped (Replies r) (unless checks last) others a.1) [
        | inl x ↦ absurd (refused x.0 (same_reply r (Msg x.0) x.2))
        | inr x ↦
            let b = passed (Replies r) last checks q (refl, (refl, tt)) x.1 in
            elim (shaped (Replies r) (Restores snap) users b.1) [
              | inl y ↦ absurd (refused y.0 (same_reply r (Msg y.0) y.2))
              | inr y ↦ absurd (let z = y.1 in cc)
            ]
      ]

  -- a reply that is no refusal, whichever it is
  goes_well : (stmt : Stmt) (r : Reply) → stmt_of st k ≡ Some stmt → ((m : Message) → r ≡ Msg m → ⊥) → IsQuiet (Replies r) → next_stmt st k stmt ≡ Replies r → Effected st k (effect st k (Some stmt) Ok)
  goes_well (UseDb d) r says refused q e =
      let a = passed (Replies r) (Replies Ok) ((not (is_database st d), plain NO_DATABASE) ∷ (is_restoring st d, plain RESTORING) ∷ (is_being_made st d, plain BEING_MADE) ∷ (is_suspect st d, plain SUSPECT) ∷ []) q (refl, (refl, (refl, (refl, tt)))) e in
      turns (record (session st k) { current = d }) refl refl (Enters a.0.1.0) (inl (refl, refl)) (Waits refl refl (λ z. z))
  goes_well BeginTran r says refused q e = turns (record (session st k) { depth = (session st k).depth + 1 }) refl refl (Same refl) (inr (no_tables st k BeginTran says refl)) (Waits refl refl (λ z. absurd (omega (arith, z))))
  goes_well Commit r says refused q e = inner_commit says
  goes_well Rollback r says refused q e = turns (outside (session st k)) refl refl (Same refl) (inr (no_tables st k Rollback says refl)) (Ends refl refl)
  goes_well (SetLevel level) r says refused q e = turns (record (session st k) { level = level }) refl refl (Same refl) (inr (no_tables st k (SetLevel level) says refl)) (Waits refl refl (λ z. z))
  goes_well (DropDb d) r says refused q e = drops d (without_names (files_of st d) st.on_volume) st.in_doubt
  goes_well (Restore d snap) r says refused q e = let h = restore_replied (restored st k) d snap r refused q e in reverts snap h.0 h.1
  goes_well (CreateTable name cols) r says refused q e = let h = well_defined st k (CreateTable name cols) (length cols == 0) r (create_good name cols) refused q e in changes (CreateTable name cols) says (inr h.0) h.1
  goes_well (DropTable name) r says refused q e = let h = well_defined st k (DropTable name) false r (λ z. drop_good name) refused q e in changes (DropTable name) says (inr h.0) h.1
  goes_well (Insert i) r says refused q e = let h = well_changed st k (Insert i) r refl refl refused q e in changes (Insert i) says (inl h.0) h.1
  goes_well (Update u) r says refused q e = let h = well_changed st k (Update u) r refl refl refused q e in changes (Update u) says (inl h.0) h.1
  goes_well (Delete d) r says refused q e = let h = well_changed st k (Delete d) r refl refl refused q e in changes (Delete d) says (inl h.0) h.1
  goes_well stmt r says refused q e = rests st.on_volume st.in_doubt

  count_same : (stmt : Stmt) (n : ℕ) → effect st k (Some stmt) (Count n) ≡ effect st k (Some stmt) Ok
  count_same (UseDb d) n = refl
  count_same stmt n = refl

  rows_same : (stmt : Stmt) (rows : List (List Value)) → effect st k (Some stmt) (Rows rows) ≡ effect st k (Some stmt) Ok
  rows_same (UseDb d) rows = refl
  rows_same stmt rows = refl

  well : (stmt : Stmt) (r : Reply) → stmt_of st k ≡ Some stmt → ((m : Message) → r ≡ Msg m → ⊥) → IsQuiet (Replies r) → (next_of st k (Some stmt) ≡ Replies r) ⊎ IsFree st k (Some stmt) r → Effected st k (effect st k (Some stmt) Ok)
  well stmt r says refused q (inl e) = goes_well stmt r says refused q (of_built st k stmt (Replies r) q e)
  well stmt r says refused q (inr f) = absurd (free_loud st k (Some stmt) r f q)

  -- any reply
  pub effected : (stmt : Stmt) (r : Reply) → stmt_of st k ≡ Some stmt → (next_of st k (Some stmt) ≡ Replies r) ⊎ IsFree st k (Some stmt) r → Effected st k (effect st k (Some stmt) r)
  effected stmt (Msg m) says h = refuses stmt m says
  effected stmt Ok says h = well stmt Ok says (λ m e. absurd (cc)) (quiet_reply Ok refl) h
  effected stmt (Count n) says h = subst (λ (x : Plain). Effected st k x) (sym (count_same stmt n)) (well stmt (Count n) says (λ m e. absurd (cc)) (quiet_reply (Count n) refl) h)
  effected stmt (Rows rows) says h = subst (λ (x : Plain). Effected st k x) (sym (rows_same stmt rows)) (well stmt (Rows rows) says (λ m e. absurd (cc)) (quiet_reply (Rows rows) refl) h)
