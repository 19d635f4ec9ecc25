-- What holds of the session that wants a lock, has its snapshot cut, or begins to revert the source.
use Rattle.std.proofs.Common.{◌≡◌, ◌≢◌, ◌+◌, ◌-◌, ◌<◌, ◌≤◌, ◌⊎◌, inl, inr, ℕ, suc, zero, Bool, true, false, ◌&&◌, ◌||◌, not, nat_eq, nat_le, cond, List, [], ◌∷◌, length, get_or, refl, ap, sym, ◌∙◌, subst, arith}
use Rattle.std.specs.Prelude.{Option, Some, None, ◌==◌, option_map}
use Rattle.std.specs.Str.{bytes_eq}
use Rattle.std.proofs.lemmas.Bool.{cases_lt, leb-false, not-false, or_parts, ne_eqb}
use Rattle.std.proofs.lemmas.List.{get_or_past}
use Rattle.page_base.specs.declared.numbers.Mode.{Mode}
use Rattle.page_base.specs.declared.numbers.Mode.TheVariants.{S, X}
use Rattle.plain_model.specs.declared.stmt.Stmt.{Stmt}
use Rattle.plain_model.specs.declared.stmt.Stmt.TheVariants.{UseDb, CreateTable, DropTable, Insert, Select, Update, Delete, Commit, Rollback, CreateSnap, DropDb, Restore}
use Rattle.plain_model.specs.declared.stmt.SelectStmt.{SelectStmt}
use Rattle.plain_model.specs.declared.stmt.SnapFile.{SnapFile}
use Rattle.plain_model.specs.declared.event.LockName.{LockName}
use Rattle.plain_model.specs.declared.event.LockName.TheVariants.{All, Table}
use Rattle.plain_model.specs.declared.reply.Message.{Message}
use Rattle.plain_model.specs.declared.reply.Reply.TheVariants.{Ok, Msg}
use Rattle.plain_model.specs.declared.reply.TheConstants.Message.{NO_TABLE, SUSPECT, BEING_MADE, TABLE_IN_TRANSACTION, BAD_DEFINITION, FILE_FAILED, IN_USE, OTHER_SNAPSHOT, REVERT_FAILED, NOTHING_TO_COMMIT, NOTHING_TO_ROLL_BACK}
use Rattle.plain_model.specs.Messages.{plain, at_place, of_name}
use Rattle.plain_model.specs.Meaning.{shape}
use Rattle.plain_model.specs.State.{Plain, Session, fresh_session, session, stmt_of, see, copy, is_source, is_snap, is_suspect, is_being_made, restored}
use Rattle.plain_model.specs.Holding.{holds}
use Rattle.plain_model.specs.Users.{first_session, is_locking, is_in_either, in_use_by, other_snap}
use Rattle.plain_model.specs.Next.{Next, Replies, Wants, Cuts, Restores, Silent, unless, unless_shape, under, answers, no_write, is_database, next, next_of, next_stmt, next_define, next_change, next_select, no_snap, no_room, next_snap, no_restore, next_restore}
use Rattle.plain_steps.proofs.LockLemmas.{same_bytes, Locks}
use Rattle.plain_steps.proofs.ComingLemmas.{IsWanted, passed, shaped, under_wants, of_built, quiet_wants, quiet_cuts, quiet_restores}
use Rattle.plain_steps.proofs.StillLemmas.{still_unless, still_shape, still_change, still_define, still_elsewhere, still_select, still_snap, still_drop, still_restore, still_use, still_ending}

abbrev locks_on : Next → Bool
locks_on (Wants name mode) = true
locks_on (Replies r) = false
locks_on (Cuts snap) = false
locks_on (Restores snap) = false
locks_on Silent = false

abbrev cuts_on : Next → Bool
cuts_on (Cuts snap) = true
cuts_on (Replies r) = false
cuts_on (Wants name mode) = false
cuts_on (Restores snap) = false
cuts_on Silent = false

abbrev reverts_on : Next → Bool
reverts_on (Restores snap) = true
reverts_on (Replies r) = false
reverts_on (Wants name mode) = false
reverts_on (Cuts snap) = false
reverts_on Silent = false

-- it can't come
never : (A : Type 0) (test : Next → Bool) (n x : Next) → test n ≡ false → test x ≡ true → n ≡ x → A
never A test n x f t e = absurd (let y : false ≡ true = sym f ∙ ap test e ∙ t in cc)

-- A LOCK

-- a session gains a lock: it is wanted, in the source, and a table's comes under that of the table of tables
pub record Gains (st : Plain) (k : ℕ) (name : LockName) (mode : Mode) : Type 0 where
  pub wanted : IsWanted st k name mode
  pub here : is_source st (session st k).current ≡ true
  pub tabled : (name ≡ All) ⊎ (holds (session st k).locks All S ≡ true)

define_gains : (st : Plain) (k : ℕ) (stmt : Stmt) (bad : Bool) (name : LockName) (mode : Mode) → next_define st k stmt bad ≡ Wants name mode → Gains st k name mode
define_gains st k stmt bad name mode e =
    let inner : Next = unless_shape (shape stmt (see st k)) (answers stmt (see st k)) in
    let checks : List (Bool × Message) = (nat_le 1 (session st k).depth, plain TABLE_IN_TRANSACTION) ∷ (bad, plain BAD_DEFINITION) ∷ [] in
    let a = passed (Wants name mode) (unless checks (under st k All X inner)) (no_write st k) (quiet_wants name mode) (refl, (refl, tt)) e in
    let b = passed (Wants name mode) (under st k All X inner) checks (quiet_wants name mode) (refl, (refl, tt)) a.1 in
    elim (under_wants st k All X inner name mode b.1) [
      | inl h ↦ never (Gains st k name mode) locks_on inner (Wants name mode) (still_shape locks_on (λ r. refl) (shape stmt (see st k)) (answers stmt (see st k)) refl) refl h.1
      | inr h ↦ record { wanted = h.1; here = not-false (is_source st (session st k).current) a.0.1.0; tabled = inl h.0 }
    ]

change_gains : (st : Plain) (k : ℕ) (stmt : Stmt) (table : List ℕ) (name : LockName) (mode : Mode) → next_change st k stmt table ≡ Wants name mode → Gains st k name mode
change_gains st k stmt table name mode e =
    let last : Next = answers stmt (see st k) in
    let third : Next = under st k (Table table) X last in
    let second : Next = unless_shape (shape stmt (see st k)) third in
    let a = passed (Wants name mode) (under st k All S second) (no_write st k) (quiet_wants name mode) (refl, (refl, tt)) e in
    let here = not-false (is_source st (session st k).current) a.0.1.0 in
    elim (under_wants st k All S second name mode a.1) [
      | inl h ↦ elim (shaped (Wants name mode) third (shape stmt (see st k)) h.1) [
        | inl s ↦ absurd (let y = s.2 in cc)
        | inr s ↦ elim (under_wants st k (Table table) X last name mode s.1) [
          | inl l ↦ absurd (let y = l.1 in cc)
          | inr l ↦ record { wanted = l.1; here = here; tabled = inr h.0 }
        ]
      ]
      | inr h ↦ record { wanted = h.1; here = here; tabled = inl h.0 }
    ]

select_gains : (st : Plain) (k : ℕ) (s : SelectStmt) (name : LockName) (mode : Mode) → next_select st k (Select s) s.table ≡ Wants name mode → Gains st k name mode
select_gains st k s name mode e = by (is_source st (session st k).current) refl e
  where
    by : (b : Bool) → is_source st (session st k).current ≡ b →
        cond b (under st k All S (unless_shape (shape (Select s) (see st k)) (under st k (Table s.table) S (answers (Select s) (see st k))))) (cond (is_snap st (session st k).current) (unless ((is_suspect st (session st k).current, plain SUSPECT) ∷ []) (unless_shape (shape (Select s) (copy st (session st k).current)) (answers (Select s) (copy st (session st k).current)))) (Replies (Msg (plain NO_TABLE)))) ≡ Wants name mode → Gains st k name mode
    by true here e = elim (under_wants st k All S (unless_shape (shape (Select s) (see st k)) (under st k (Table s.table) S (answers (Select s) (see st k)))) name mode e) [
      | inl h ↦ elim (shaped (Wants name mode) (under st k (Table s.table) S (answers (Select s) (see st k))) (shape (Select s) (see st k)) h.1) [
        | inl x ↦ absurd (let y = x.2 in cc)
        | inr x ↦ elim (under_wants st k (Table s.table) S (answers (Select s) (see st k)) name mode x.1) [
          | inl l ↦ absurd (let y = l.1 in cc)
          | inr l ↦ record { wanted = l.1; here = here; tabled = inr h.0 }
        ]
      ]
      | inr h ↦ record { wanted = h.1; here = here; tabled = inl h.0 }
    ]
    by false here e = never (Gains st k name mode) locks_on (cond (is_snap st (session st k).current) (unless ((is_suspect st (session st k).current, plain SUSPECT) ∷ []) (unless_shape (shape (Select s) (copy st (session st k).current)) (answers (Select s) (copy st (session st k).current)))) (Replies (Msg (plain NO_TABLE)))) (Wants name mode) (still_elsewhere locks_on (λ r. refl) st k s) refl e

stmt_gains : (st : Plain) (k : ℕ) (stmt : Stmt) (name : LockName) (mode : Mode) → next_stmt st k stmt ≡ Wants name mode → Gains st k name mode
stmt_gains st k (CreateTable table cols) name mode e = define_gains st k (CreateTable table cols) (length cols == 0) name mode e
stmt_gains st k (DropTable table) name mode e = define_gains st k (DropTable table) false name mode e
stmt_gains st k (Insert i) name mode e = change_gains st k (Insert i) i.table name mode e
stmt_gains st k (Update u) name mode e = change_gains st k (Update u) u.table name mode e
stmt_gains st k (Delete d) name mode e = change_gains st k (Delete d) d.table name mode e
stmt_gains st k (Select s) name mode e = select_gains st k s name mode e
stmt_gains st k (UseDb d) name mode e = never (Gains st k name mode) locks_on (next_stmt st k (UseDb d)) (Wants name mode) (still_use locks_on (λ r. refl) st d) refl e
stmt_gains st k Commit name mode e = never (Gains st k name mode) locks_on (next_stmt st k Commit) (Wants name mode) (still_ending locks_on (λ r. refl) ((session st k).depth == 0) NOTHING_TO_COMMIT) refl e
stmt_gains st k Rollback name mode e = never (Gains st k name mode) locks_on (next_stmt st k Rollback) (Wants name mode) (still_ending locks_on (λ r. refl) ((session st k).depth == 0) NOTHING_TO_ROLL_BACK) refl e
stmt_gains st k (CreateSnap snap files of) name mode e = never (Gains st k name mode) locks_on (next_stmt st k (CreateSnap snap files of)) (Wants name mode) (still_snap locks_on (λ r. refl) st k (session st k).making snap files of refl) refl e
stmt_gains st k (DropDb d) name mode e = never (Gains st k name mode) locks_on (next_stmt st k (DropDb d)) (Wants name mode) (still_drop locks_on (λ r. refl) st k d) refl e
stmt_gains st k (Restore d snap) name mode e = never (Gains st k name mode) locks_on (next_stmt st k (Restore d snap)) (Wants name mode) (still_restore locks_on (λ r. refl) st k (restored st k) d snap refl) refl e
stmt_gains st k stmt name mode e = absurd (cc)

-- what comes next comes of a statement
pub of_stmt : (st : Plain) (k : ℕ) (o : Option Stmt) (x : Next) → (x ≡ Silent → ⊥) → next_of st k o ≡ x → (stmt : Stmt) × (o ≡ Some stmt) × (next_of st k (Some stmt) ≡ x)
of_stmt st k None x loud e = absurd (loud (sym e))
of_stmt st k (Some stmt) x loud e = (stmt, refl, e)

-- a lock is wanted only where it may be gained
pub gains : (st : Plain) (k : ℕ) (name : LockName) (mode : Mode) → next st k ≡ Wants name mode → Gains st k name mode
gains st k name mode e =
    let s = of_stmt st k (stmt_of st k) (Wants name mode) (λ y. absurd (cc)) e in
    stmt_gains st k s.0 name mode (of_built st k s.0 (Wants name mode) (quiet_wants name mode) s.2)

-- A CUT

snap_cuts : (st : Plain) (k : ℕ) (o : Option (List ℕ)) (name : List ℕ) (files : List SnapFile) (of snap : List ℕ) → next_snap st k o name files of ≡ Cuts snap → is_database st snap ≡ false
snap_cuts st k (Some made) name files of snap e = never (is_database st snap ≡ false) cuts_on (next_snap st k (Some made) name files of) (Cuts snap) (still_unless cuts_on (λ r. refl) ((is_suspect st made, plain FILE_FAILED) ∷ []) (Replies Ok) refl) refl e
snap_cuts st k None name files of snap e =
    let a = passed (Cuts snap) (unless (no_room st files) (Cuts name)) (no_snap st k name files of) (quiet_cuts snap) (refl, (refl, (refl, (refl, (refl, (refl, tt)))))) e in
    let b = passed (Cuts snap) (Cuts name) (no_room st files) (quiet_cuts snap) (refl, (refl, tt)) a.1 in
    let same : name ≡ snap = let y = b.1 in cc in
    subst (λ n. is_database st n ≡ false) same a.0.1.0

stmt_cuts : (st : Plain) (k : ℕ) (stmt : Stmt) (snap : List ℕ) → next_stmt st k stmt ≡ Cuts snap → is_database st snap ≡ false
stmt_cuts st k (CreateTable table cols) snap e = never (is_database st snap ≡ false) cuts_on (next_stmt st k (CreateTable table cols)) (Cuts snap) (still_define cuts_on (λ r. refl) st k (CreateTable table cols) (length cols == 0) (λ n m. refl)) refl e
stmt_cuts st k (DropTable table) snap e = never (is_database st snap ≡ false) cuts_on (next_stmt st k (DropTable table)) (Cuts snap) (still_define cuts_on (λ r. refl) st k (DropTable table) false (λ n m. refl)) refl e
stmt_cuts st k (Insert i) snap e = never (is_database st snap ≡ false) cuts_on (next_stmt st k (Insert i)) (Cuts snap) (still_change cuts_on (λ r. refl) st k (Insert i) i.table (λ n m. refl)) refl e
stmt_cuts st k (Update u) snap e = never (is_database st snap ≡ false) cuts_on (next_stmt st k (Update u)) (Cuts snap) (still_change cuts_on (λ r. refl) st k (Update u) u.table (λ n m. refl)) refl e
stmt_cuts st k (Delete d) snap e = never (is_database st snap ≡ false) cuts_on (next_stmt st k (Delete d)) (Cuts snap) (still_change cuts_on (λ r. refl) st k (Delete d) d.table (λ n m. refl)) refl e
stmt_cuts st k (Select s) snap e = never (is_database st snap ≡ false) cuts_on (next_stmt st k (Select s)) (Cuts snap) (still_select cuts_on (λ r. refl) st k s (λ n m. refl)) refl e
stmt_cuts st k (UseDb d) snap e = never (is_database st snap ≡ false) cuts_on (next_stmt st k (UseDb d)) (Cuts snap) (still_use cuts_on (λ r. refl) st d) refl e
stmt_cuts st k Commit snap e = never (is_database st snap ≡ false) cuts_on (next_stmt st k Commit) (Cuts snap) (still_ending cuts_on (λ r. refl) ((session st k).depth == 0) NOTHING_TO_COMMIT) refl e
stmt_cuts st k Rollback snap e = never (is_database st snap ≡ false) cuts_on (next_stmt st k Rollback) (Cuts snap) (still_ending cuts_on (λ r. refl) ((session st k).depth == 0) NOTHING_TO_ROLL_BACK) refl e
stmt_cuts st k (DropDb d) snap e = never (is_database st snap ≡ false) cuts_on (next_stmt st k (DropDb d)) (Cuts snap) (still_drop cuts_on (λ r. refl) st k d) refl e
stmt_cuts st k (Restore d s) snap e = never (is_database st snap ≡ false) cuts_on (next_stmt st k (Restore d s)) (Cuts snap) (still_restore cuts_on (λ r. refl) st k (restored st k) d s refl) refl e
stmt_cuts st k (CreateSnap name files of) snap e = snap_cuts st k (session st k).making name files of snap e
stmt_cuts st k stmt snap e = absurd (cc)

-- a snapshot is cut under a name that no database has
pub cuts : (st : Plain) (k : ℕ) (snap : List ℕ) → next st k ≡ Cuts snap → is_database st snap ≡ false
cuts st k snap e =
    let s = of_stmt st k (stmt_of st k) (Cuts snap) (λ y. absurd (cc)) e in
    stmt_cuts st k s.0 snap (of_built st k s.0 (Cuts snap) (quiet_cuts snap) s.2)

-- A REVERT

-- a session begins to revert the source: it is outside a transaction, and no other is in the source or holds a lock
pub record Begins (st : Plain) (k : ℕ) : Type 0 where
  pub outside : (session st k).depth ≡ 0
  pub others : (i : ℕ) → i ≢ k - 1 → ((get_or st.sessions i fresh_session).locks ≡ []) × ((is_source st (get_or st.sessions i fresh_session).current ≡ false) ⊎ (length st.sessions ≤ i))

no_locks : (ls : Locks) → is_locking ls ≡ false → ls ≡ []
no_locks [] e = refl
no_locks (l ∷ ls) e = absurd (let x : true ≡ false = e in cc)

no_first : (test : ℕ → Session → Bool) (j : ℕ) (ss : List Session) → first_session test j ss ≡ None → (i : ℕ) → i < length ss → test (j + i) (get_or ss i fresh_session) ≡ false
no_first test j [] e i lt = absurd (omega (arith, lt))
no_first test j (s ∷ ss) e i lt = by (test j s) refl (no_first test (j + 1) ss) e i lt
  where
    by : (b : Bool) → test j s ≡ b → (first_session test (j + 1) ss ≡ None → (i : ℕ) → i < length ss → test (j + 1 + i) (get_or ss i fresh_session) ≡ false) → cond b (Some j) (first_session test (j + 1) ss) ≡ None → (i : ℕ) → i < length (s ∷ ss) → test (j + i) (get_or (s ∷ ss) i fresh_session) ≡ false
    by true h rest e i lt = absurd (cc)
    by false h rest e zero lt = ap (λ n. test n s) (omega arith) ∙ h
    by false h rest e (suc i) lt = let n : j + suc i ≡ j + 1 + i = omega arith in ap (λ n. test n (get_or ss i fresh_session)) n ∙ rest e i (omega (arith, lt))

none_mapped : {A B : Type 0} (f : A → B) (o : Option A) → option_map f o ≡ None → o ≡ None
none_mapped f None e = refl
none_mapped f (Some x) e = absurd (cc)

restore_begins : (st : Plain) (k : ℕ) (o : Option (List ℕ)) (d name snap : List ℕ) → 1 ≤ k → next_restore st k o d name ≡ Restores snap → Begins st k
restore_begins st k (Some begun) d name snap low e = never (Begins st k) reverts_on (next_restore st k (Some begun) d name) (Restores snap) (still_unless reverts_on (λ r. refl) ((is_suspect st begun, plain REVERT_FAILED) ∷ []) (Replies Ok) refl) refl e
restore_begins st k None d name snap low e =
    let users : Option Message = option_map (at_place IN_USE) (in_use_by st k d name) in
    let checks : List (Bool × Message) = (is_being_made st name, plain BEING_MADE) ∷ (is_suspect st name, plain SUSPECT) ∷ [] in
    let others : Option Message = option_map (λ s. of_name OTHER_SNAPSHOT s.name) (other_snap st name) in
    let last : Next = unless_shape users (Restores name) in
    let a = passed (Restores snap) (unless_shape others (unless checks last)) (no_restore st k d name) (quiet_restores snap) (refl, (refl, (refl, (refl, (refl, tt))))) e in
    let low_depth = leb-false 1 (session st k).depth a.0.0 in
    let of : is_source st d ≡ true = not-false (is_source st d) a.0.1.1.0 in
    elim (shaped (Restores snap) (unless checks last) others a.1) [
      | inl x ↦ absurd (let y = x.2 in cc)
      | inr x ↦
          let b = passed (Restores snap) last checks (quiet_restores snap) (refl, (refl, tt)) x.1 in
          elim (shaped (Restores snap) (Restores name) users b.1) [
            | inl y ↦ absurd (let z = y.2 in cc)
            | inr y ↦ record {
              outside = omega (arith, low_depth);
              others = λ i ne. elim (cases_lt i (length st.sessions)) [
                | inl lt ↦ out i ne of (no_first (λ j s. not (j == k) && (is_in_either d name s || is_locking s.locks)) 1 st.sessions (none_mapped (at_place IN_USE) (in_use_by st k d name) y.0) i lt)
                | inr ge ↦ (ap (λ (t : Session). t.locks) (get_or_past st.sessions i fresh_session ge), inr ge)
              ];
            }
          ]
    ]
  where
    out : (i : ℕ) → i ≢ k - 1 → is_source st d ≡ true → (not (nat_eq (1 + i) k) && (is_in_either d name (get_or st.sessions i fresh_session) || is_locking (get_or st.sessions i fresh_session).locks)) ≡ false →
        ((get_or st.sessions i fresh_session).locks ≡ []) × ((is_source st (get_or st.sessions i fresh_session).current ≡ false) ⊎ (length st.sessions ≤ i))
    out i ne of h =
        let s : Session = get_or st.sessions i fresh_session in
        let apart : nat_eq (1 + i) k ≡ false = ne_eqb (1 + i) k (λ is. ne (omega (arith, is))) in
        let clear : (is_in_either d name s || is_locking s.locks) ≡ false = sym (ap (λ b. not b && (is_in_either d name s || is_locking s.locks)) apart) ∙ h in
        let parts = or_parts (is_in_either d name s) (is_locking s.locks) clear in
        let either = or_parts (bytes_eq s.current d) (bytes_eq s.current name) parts.0 in
        let same : d ≡ st.opening.source = same_bytes d st.opening.source of in
        (no_locks s.locks parts.1, inl (subst (λ n. bytes_eq s.current n ≡ false) same either.0))

stmt_begins : (st : Plain) (k : ℕ) (stmt : Stmt) (snap : List ℕ) → 1 ≤ k → next_stmt st k stmt ≡ Restores snap → Begins st k
stmt_begins st k (CreateTable table cols) snap low e = never (Begins st k) reverts_on (next_stmt st k (CreateTable table cols)) (Restores snap) (still_define reverts_on (λ r. refl) st k (CreateTable table cols) (length cols == 0) (λ n m. refl)) refl e
stmt_begins st k (DropTable table) snap low e = never (Begins st k) reverts_on (next_stmt st k (DropTable table)) (Restores snap) (still_define reverts_on (λ r. refl) st k (DropTable table) false (λ n m. refl)) refl e
stmt_begins st k (Insert i) snap low e = never (Begins st k) reverts_on (next_stmt st k (Insert i)) (Restores snap) (still_change reverts_on (λ r. refl) st k (Insert i) i.table (λ n m. refl)) refl e
stmt_begins st k (Update u) snap low e = never (Begins st k) reverts_on (next_stmt st k (Update u)) (Restores snap) (still_change reverts_on (λ r. refl) st k (Update u) u.table (λ n m. refl)) refl e
stmt_begins st k (Delete d) snap low e = never (Begins st k) reverts_on (next_stmt st k (Delete d)) (Restores snap) (still_change reverts_on (λ r. refl) st k (Delete d) d.table (λ n m. refl)) refl e
stmt_begins st k (Select s) snap low e = never (Begins st k) reverts_on (next_stmt st k (Select s)) (Restores snap) (still_select reverts_on (λ r. refl) st k s (λ n m. refl)) refl e
stmt_begins st k (UseDb d) snap low e = never (Begins st k) reverts_on (next_stmt st k (UseDb d)) (Restores snap) (still_use reverts_on (λ r. refl) st d) refl e
stmt_begins st k Commit snap low e = never (Begins st k) reverts_on (next_stmt st k Commit) (Restores snap) (still_ending reverts_on (λ r. refl) ((session st k).depth == 0) NOTHING_TO_COMMIT) refl e
stmt_begins st k Rollback snap low e = never (Begins st k) reverts_on (next_stmt st k Rollback) (Restores snap) (still_ending reverts_on (λ r. refl) ((session st k).depth == 0) NOTHING_TO_ROLL_BACK) refl e
stmt_begins st k (DropDb d) snap low e = never (Begins st k) reverts_on (next_stmt st k (DropDb d)) (Restores snap) (still_drop reverts_on (λ r. refl) st k d) refl e
stmt_begins st k (CreateSnap name files of) snap low e = never (Begins st k) reverts_on (next_stmt st k (CreateSnap name files of)) (Restores snap) (still_snap reverts_on (λ r. refl) st k (session st k).making name files of refl) refl e
stmt_begins st k (Restore d name) snap low e = restore_begins st k (restored st k) d name snap low e
stmt_begins st k stmt snap low e = absurd (cc)

-- a revert begins only so
pub begins : (st : Plain) (k : ℕ) (snap : List ℕ) → 1 ≤ k → next st k ≡ Restores snap → Begins st k
begins st k snap low e =
    let s = of_stmt st k (stmt_of st k) (Restores snap) (λ y. absurd (cc)) e in
    stmt_begins st k s.0 snap low (of_built st k s.0 (Restores snap) (quiet_restores snap) s.2)
