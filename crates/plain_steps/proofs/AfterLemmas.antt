-- What one event leaves of the sessions, of the source and of the copies.
use Rattle.std.proofs.Common.{◌≡◌, ◌≢◌, ◌+◌, ◌-◌, ◌≤◌, ℕ, Bool, true, false, ◌||◌, not, nat_le, cond, IsTrue, List, [], ◌∷◌, ◌++◌, refl, ap, sym, ◌∙◌, arith, inl, inr}
use Rattle.std.specs.Prelude.{Option, None, Some, ◌==◌, is_some, unwrap_or, find, filter}
use Rattle.std.specs.FinMap as finite
use Rattle.std.specs.FinMap.{get-insert}
use Rattle.std.specs.Cmp.Lexicographic.{nat_list_cmp_total}
use Rattle.std.specs.Str.{bytes_eq}
use Rattle.std.proofs.lemmas.Bool.{cases_Bool, eqb-true}
use Rattle.std.proofs.lemmas.Map.Text.{is_eq-slice_cmp}
use Rattle.page_base.specs.declared.numbers.SessNo.{SessNo}
use Rattle.page_base.specs.declared.value.Value.{Value}
use Rattle.plain_model.specs.declared.stmt.Stmt.{Stmt}
use Rattle.plain_model.specs.declared.stmt.Stmt.TheVariants.{UseDb, CreateTable, DropTable, Insert, Select, Update, Delete, BeginTran, Commit, Rollback, LockTimeoutZero, SetLevel, CreateSnap, DropDb, Restore, Broken}
use Rattle.plain_model.specs.declared.reply.Message.{Message}
use Rattle.plain_model.specs.declared.reply.Reply.{Reply}
use Rattle.plain_model.specs.declared.reply.Reply.TheVariants.{Ok, Count, Rows, Msg}
use Rattle.plain_model.specs.declared.reply.TheConstants.Message.{NO_MEMORY, FILE_FAILED, FILE_NOT_REMOVED, LOG_FAILED}
use Rattle.plain_model.specs.declared.event.Event.{Event}
use Rattle.plain_model.specs.declared.event.Event.TheVariants.{Locked, CutAt, RestoreAt, Turned, Said, Left}
use Rattle.plain_model.specs.Journal.{Committed, held}
use Rattle.plain_model.specs.Legal.{MayCome, after, effect, answered, counted, with_changes, with_session, outside, after_commit, without_snap, without_made, with_doubt}
use Rattle.plain_model.specs.Meaning.{change_and_reply}
use Rattle.plain_model.specs.Next.{sparse_names}
use Rattle.plain_model.specs.State.{Plain, Session, session, stmt_of, is_session, is_snap, committed, see, copy, files_of}
use Rattle.plain_model.specs.Tables.{Change, Tables, apply, applied}
use Rattle.plain_steps.specs.Events.{who_of, source_after, source_by, source_next, sight_after, sight_by}
use Rattle.plain_steps.proofs.EventLemmas.{step, numbered}
use Rattle.plain_steps.proofs.LockLemmas.{same_bytes}
use Rattle.plain_steps.proofs.ReplyLemmas.{put_there, still_there, none_left, others_stay}

-- THE OTHERS

pub others_are : (st : Plain) (e : Event) → MayCome st e → (j : ℕ) → 1 ≤ j → j ≢ who_of e → session (after st e) j ≡ session st j
others_are st (Turned snap) may j low ne = refl
others_are st (Locked who table mode) may j low ne = let n = numbered st who.0 may.0 in (step st (Locked who table mode) may).others (j - 1) (λ is. ne (omega (arith, is, low, n.0)))
others_are st (CutAt who snap) may j low ne = let n = numbered st who.0 may.0 in (step st (CutAt who snap) may).others (j - 1) (λ is. ne (omega (arith, is, low, n.0)))
others_are st (RestoreAt who snap) may j low ne = let n = numbered st who.0 may.0 in (step st (RestoreAt who snap) may).others (j - 1) (λ is. ne (omega (arith, is, low, n.0)))
others_are st (Said who number began reply) may j low ne = let n = numbered st who.0 may.0 in (step st (Said who number began reply) may).others (j - 1) (λ is. ne (omega (arith, is, low, n.0)))
others_are st (Left who) may j low ne = let n = numbered st who.0 may.0 in (step st (Left who) may).others (j - 1) (λ is. ne (omega (arith, is, low, n.0)))

-- THE SOURCE

module _ (st : Plain) (k : ℕ) where
  changed_source : (cs : List Change) → committed (with_changes st k cs) ≡ cond ((session st k).depth == 0) (apply cs (committed st)) (committed st)
  changed_source cs = by ((session st k).depth == 0)
    where
      by : (b : Bool) → committed (cond b (record st { journal = Committed k cs ∷ st.journal }) (with_session st k (record (session st k) { work = (session st k).work ++ cs }))) ≡ cond b (apply cs (committed st)) (committed st)
      by true = refl
      by false = refl

  commit_source : committed (after_commit st k) ≡ cond (nat_le 2 (session st k).depth) (committed st) (see st k)
  commit_source = by (nat_le 2 (session st k).depth)
    where
      by : (b : Bool) → committed (cond b (with_session st k (record (session st k) { depth = (session st k).depth - 1 })) (record (with_session st k (outside (session st k))) { journal = Committed k (session st k).work ∷ st.journal })) ≡ cond b (committed st) (see st k)
      by true = refl
      by false = refl

  source_ok : (stmt : Stmt) → committed (effect st k (Some stmt) Ok) ≡ source_after st k stmt
  source_ok (UseDb d) = refl
  source_ok (CreateTable name cols) = changed_source (change_and_reply (CreateTable name cols) (see st k)).0
  source_ok (DropTable name) = changed_source (change_and_reply (DropTable name) (see st k)).0
  source_ok (Insert i) = changed_source (change_and_reply (Insert i) (see st k)).0
  source_ok (Select s) = refl
  source_ok (Update u) = changed_source (change_and_reply (Update u) (see st k)).0
  source_ok (Delete d) = changed_source (change_and_reply (Delete d) (see st k)).0
  source_ok BeginTran = refl
  source_ok Commit = commit_source
  source_ok Rollback = refl
  source_ok LockTimeoutZero = refl
  source_ok (SetLevel level) = refl
  source_ok (CreateSnap snap files of) = refl
  source_ok (DropDb d) = refl
  source_ok (Restore d snap) = refl
  source_ok (Broken at) = refl

  source_count : (n : ℕ) (stmt : Stmt) → committed (effect st k (Some stmt) (Count n)) ≡ source_after st k stmt
  source_count n (UseDb d) = refl
  source_count n (CreateTable name cols) = changed_source (change_and_reply (CreateTable name cols) (see st k)).0
  source_count n (DropTable name) = changed_source (change_and_reply (DropTable name) (see st k)).0
  source_count n (Insert i) = changed_source (change_and_reply (Insert i) (see st k)).0
  source_count n (Select s) = refl
  source_count n (Update u) = changed_source (change_and_reply (Update u) (see st k)).0
  source_count n (Delete d) = changed_source (change_and_reply (Delete d) (see st k)).0
  source_count n BeginTran = refl
  source_count n Commit = commit_source
  source_count n Rollback = refl
  source_count n LockTimeoutZero = refl
  source_count n (SetLevel level) = refl
  source_count n (CreateSnap snap files of) = refl
  source_count n (DropDb d) = refl
  source_count n (Restore d snap) = refl
  source_count n (Broken at) = refl

  source_rows : (rows : List (List Value)) (stmt : Stmt) → committed (effect st k (Some stmt) (Rows rows)) ≡ source_after st k stmt
  source_rows rows (UseDb d) = refl
  source_rows rows (CreateTable name cols) = changed_source (change_and_reply (CreateTable name cols) (see st k)).0
  source_rows rows (DropTable name) = changed_source (change_and_reply (DropTable name) (see st k)).0
  source_rows rows (Insert i) = changed_source (change_and_reply (Insert i) (see st k)).0
  source_rows rows (Select s) = refl
  source_rows rows (Update u) = changed_source (change_and_reply (Update u) (see st k)).0
  source_rows rows (Delete d) = changed_source (change_and_reply (Delete d) (see st k)).0
  source_rows rows BeginTran = refl
  source_rows rows Commit = commit_source
  source_rows rows Rollback = refl
  source_rows rows LockTimeoutZero = refl
  source_rows rows (SetLevel level) = refl
  source_rows rows (CreateSnap snap files of) = refl
  source_rows rows (DropDb d) = refl
  source_rows rows (Restore d snap) = refl
  source_rows rows (Broken at) = refl

  source_refused : (m : Message) (stmt : Stmt) → committed (effect st k (Some stmt) (Msg m)) ≡ committed st
  source_refused m (UseDb d) = refl
  source_refused m (CreateTable name cols) = refl
  source_refused m (DropTable name) = refl
  source_refused m (Insert i) = refl
  source_refused m (Select s) = refl
  source_refused m (Update u) = refl
  source_refused m (Delete d) = refl
  source_refused m BeginTran = refl
  source_refused m Commit = lost (m.number == NO_MEMORY || m.number == LOG_FAILED)
    where
      lost : (b : Bool) → committed (cond b (with_session st k (outside (session st k))) st) ≡ committed st
      lost true = refl
      lost false = refl
  source_refused m Rollback = refl
  source_refused m LockTimeoutZero = refl
  source_refused m (SetLevel level) = refl
  source_refused m (CreateSnap snap files of) = failed (m.number == FILE_FAILED) (session st k).making
    where
      failed : (b : Bool) (o : Option (List ℕ)) → committed (cond b (with_doubt (without_made st o) (sparse_names files)) st) ≡ committed st
      failed false o = refl
      failed true None = refl
      failed true (Some made) = refl
  source_refused m (DropDb d) = dropped_so (m.number == FILE_NOT_REMOVED)
    where
      dropped_so : (b : Bool) → committed (cond b (with_doubt (without_snap st d) (files_of st d)) st) ≡ committed st
      dropped_so true = refl
      dropped_so false = refl
  source_refused m (Restore d snap) = refl
  source_refused m (Broken at) = refl

  effect_source : (o : Option Stmt) (r : Reply) → committed (effect st k o r) ≡ source_by st k o r
  effect_source None Ok = refl
  effect_source None (Count n) = refl
  effect_source None (Rows rows) = refl
  effect_source None (Msg m) = refl
  effect_source (Some stmt) Ok = source_ok stmt
  effect_source (Some stmt) (Count n) = source_count n stmt
  effect_source (Some stmt) (Rows rows) = source_rows rows stmt
  effect_source (Some stmt) (Msg m) = source_refused m stmt

pub source_is : (st : Plain) (e : Event) → committed (after st e) ≡ source_next st e
source_is st (Locked who table mode) = refl
source_is st (CutAt who snap) = refl
source_is st (RestoreAt who snap) = refl
source_is st (Turned snap) = refl
source_is st (Left who) = refl
source_is st (Said who number began reply) = effect_source st who.0 (stmt_of st who.0) reply

pub sights_are : (st : Plain) (e : Event) → MayCome st e → (j : ℕ) → 1 ≤ j → j ≢ who_of e → see (after st e) j ≡ apply (session st j).work (source_next st e)
sights_are st e may j low ne = (λ i. apply (others_are st e may j low ne i).work (source_is st e i))

-- WHAT THE SESSION ITSELF SEES

apply_behind : (cs ds : List Change) (tables : Tables) → apply (cs ++ ds) tables ≡ apply ds (apply cs tables)
apply_behind [] ds tables = refl
apply_behind (c ∷ cs) ds tables = apply_behind cs ds (applied c tables)

-- a session's changes over the source, at a place of its own
abbrev sight : Session → Tables → Tables
sight s tables = apply s.work tables

module _ (st : Plain) (k : ℕ) (there : IsTrue (is_session st k)) (idle : (session st k).depth ≡ 0 → (session st k).work ≡ []) where
  -- the state with the session put in its place: what it sees
  put_sees : (s : Session) → see (with_session st k s) k ≡ apply s.work (committed st)
  put_sees s = ap (λ (t : Session). apply t.work (committed st)) (put_there st k s there)

  -- a state that is seen by the session so, and in which it is one
  record Sees (x : Plain) (tables : Tables) : Type 0 where
    is : see x k ≡ tables
    session : IsTrue (is_session x k)

  stays : Sees st (see st k)
  stays = record { is = refl; session = there }

  put : (s : Session) (tables : Tables) → apply s.work (committed st) ≡ tables → Sees (with_session st k s) tables
  put s tables e = record { is = put_sees s ∙ e; session = still_there st k s there }

  changed_sees : (cs : List Change) → Sees (with_changes st k cs) (apply cs (see st k))
  changed_sees cs = by ((session st k).depth == 0) refl
    where
      by : (b : Bool) → ((session st k).depth == 0) ≡ b → Sees (cond b (record st { journal = Committed k cs ∷ st.journal }) (with_session st k (record (session st k) { work = (session st k).work ++ cs }))) (apply cs (see st k))
      by true e =
          let none : (session st k).work ≡ [] = idle (eqb-true (session st k).depth 0 e) in
          record { is = ap (λ ws. apply ws (apply cs (committed st))) none ∙ sym (ap (λ ws. apply cs (apply ws (committed st))) none); session = there }
      by false e = put (record (session st k) { work = (session st k).work ++ cs }) (apply cs (see st k)) (apply_behind (session st k).work cs (committed st))

  commit_sees : Sees (after_commit st k) (see st k)
  commit_sees = by (nat_le 2 (session st k).depth)
    where
      by : (b : Bool) → Sees (cond b (with_session st k (record (session st k) { depth = (session st k).depth - 1 })) (record (with_session st k (outside (session st k))) { journal = Committed k (session st k).work ∷ st.journal })) (see st k)
      by true = put (record (session st k) { depth = (session st k).depth - 1 }) (see st k) refl
      by false = record { is = ap (λ (t : Session). apply t.work (see st k)) (put_there st k (outside (session st k)) there); session = still_there st k (outside (session st k)) there }

  sight_ok : (stmt : Stmt) → Sees (effect st k (Some stmt) Ok) (sight_after st k stmt)
  sight_ok (UseDb d) = put (record (session st k) { current = d }) (see st k) refl
  sight_ok (CreateTable name cols) = changed_sees (change_and_reply (CreateTable name cols) (see st k)).0
  sight_ok (DropTable name) = changed_sees (change_and_reply (DropTable name) (see st k)).0
  sight_ok (Insert i) = changed_sees (change_and_reply (Insert i) (see st k)).0
  sight_ok (Select s) = record { is = refl; session = there }
  sight_ok (Update u) = changed_sees (change_and_reply (Update u) (see st k)).0
  sight_ok (Delete d) = changed_sees (change_and_reply (Delete d) (see st k)).0
  sight_ok BeginTran = put (record (session st k) { depth = (session st k).depth + 1 }) (see st k) refl
  sight_ok Commit = commit_sees
  sight_ok Rollback = put (outside (session st k)) (committed st) refl
  sight_ok LockTimeoutZero = record { is = refl; session = there }
  sight_ok (SetLevel level) = put (record (session st k) { level = level }) (see st k) refl
  sight_ok (CreateSnap snap files of) = record { is = refl; session = there }
  sight_ok (DropDb d) = record { is = refl; session = there }
  sight_ok (Restore d snap) = record { is = refl; session = there }
  sight_ok (Broken at) = record { is = refl; session = there }

  sight_count : (n : ℕ) (stmt : Stmt) → Sees (effect st k (Some stmt) (Count n)) (sight_after st k stmt)
  sight_count n (UseDb d) = put (record (session st k) { current = d }) (see st k) refl
  sight_count n (CreateTable name cols) = changed_sees (change_and_reply (CreateTable name cols) (see st k)).0
  sight_count n (DropTable name) = changed_sees (change_and_reply (DropTable name) (see st k)).0
  sight_count n (Insert i) = changed_sees (change_and_reply (Insert i) (see st k)).0
  sight_count n (Select s) = record { is = refl; session = there }
  sight_count n (Update u) = changed_sees (change_and_reply (Update u) (see st k)).0
  sight_count n (Delete d) = changed_sees (change_and_reply (Delete d) (see st k)).0
  sight_count n BeginTran = put (record (session st k) { depth = (session st k).depth + 1 }) (see st k) refl
  sight_count n Commit = commit_sees
  sight_count n Rollback = put (outside (session st k)) (committed st) refl
  sight_count n LockTimeoutZero = record { is = refl; session = there }
  sight_count n (SetLevel level) = put (record (session st k) { level = level }) (see st k) refl
  sight_count n (CreateSnap snap files of) = record { is = refl; session = there }
  sight_count n (DropDb d) = record { is = refl; session = there }
  sight_count n (Restore d snap) = record { is = refl; session = there }
  sight_count n (Broken at) = record { is = refl; session = there }

  sight_rows : (rows : List (List Value)) (stmt : Stmt) → Sees (effect st k (Some stmt) (Rows rows)) (sight_after st k stmt)
  sight_rows rows (UseDb d) = put (record (session st k) { current = d }) (see st k) refl
  sight_rows rows (CreateTable name cols) = changed_sees (change_and_reply (CreateTable name cols) (see st k)).0
  sight_rows rows (DropTable name) = changed_sees (change_and_reply (DropTable name) (see st k)).0
  sight_rows rows (Insert i) = changed_sees (change_and_reply (Insert i) (see st k)).0
  sight_rows rows (Select s) = record { is = refl; session = there }
  sight_rows rows (Update u) = changed_sees (change_and_reply (Update u) (see st k)).0
  sight_rows rows (Delete d) = changed_sees (change_and_reply (Delete d) (see st k)).0
  sight_rows rows BeginTran = put (record (session st k) { depth = (session st k).depth + 1 }) (see st k) refl
  sight_rows rows Commit = commit_sees
  sight_rows rows Rollback = put (outside (session st k)) (committed st) refl
  sight_rows rows LockTimeoutZero = record { is = refl; session = there }
  sight_rows rows (SetLevel level) = put (record (session st k) { level = level }) (see st k) refl
  sight_rows rows (CreateSnap snap files of) = record { is = refl; session = there }
  sight_rows rows (DropDb d) = record { is = refl; session = there }
  sight_rows rows (Restore d snap) = record { is = refl; session = there }
  sight_rows rows (Broken at) = record { is = refl; session = there }

  sight_refused : (m : Message) (stmt : Stmt) → Sees (effect st k (Some stmt) (Msg m)) (sight_by st k (Some stmt) (Msg m))
  sight_refused m (UseDb d) = stays
  sight_refused m (CreateTable name cols) = stays
  sight_refused m (DropTable name) = stays
  sight_refused m (Insert i) = stays
  sight_refused m (Select s) = stays
  sight_refused m (Update u) = stays
  sight_refused m (Delete d) = stays
  sight_refused m BeginTran = stays
  sight_refused m Commit = lost (m.number == NO_MEMORY || m.number == LOG_FAILED)
    where
      lost : (b : Bool) → Sees (cond b (with_session st k (outside (session st k))) st) (cond b (committed st) (see st k))
      lost true = put (outside (session st k)) (committed st) refl
      lost false = stays
  sight_refused m Rollback = stays
  sight_refused m LockTimeoutZero = stays
  sight_refused m (SetLevel level) = stays
  sight_refused m (CreateSnap snap files of) = failed (m.number == FILE_FAILED) (session st k).making
    where
      failed : (b : Bool) (o : Option (List ℕ)) → Sees (cond b (with_doubt (without_made st o) (sparse_names files)) st) (see st k)
      failed false o = stays
      failed true None = record { is = refl; session = there }
      failed true (Some made) = record { is = refl; session = there }
  sight_refused m (DropDb d) = dropped_so (m.number == FILE_NOT_REMOVED)
    where
      dropped_so : (b : Bool) → Sees (cond b (with_doubt (without_snap st d) (files_of st d)) st) (see st k)
      dropped_so true = record { is = refl; session = there }
      dropped_so false = stays
  sight_refused m (Restore d snap) = stays
  sight_refused m (Broken at) = stays

  effect_sees : (o : Option Stmt) (r : Reply) → Sees (effect st k o r) (sight_by st k o r)
  effect_sees None Ok = stays
  effect_sees None (Count n) = stays
  effect_sees None (Rows rows) = stays
  effect_sees None (Msg m) = stays
  effect_sees (Some stmt) Ok = sight_ok stmt
  effect_sees (Some stmt) (Count n) = sight_count n stmt
  effect_sees (Some stmt) (Rows rows) = sight_rows rows stmt
  effect_sees (Some stmt) (Msg m) = sight_refused m stmt

  answered_sees : (x : Plain) (tables : Tables) (number : ℕ) → Sees x tables → see (counted (answered x k number)) k ≡ tables
  answered_sees x tables number s = ap (λ (t : Session). apply t.work (committed x)) (put_there x k _ s.session) ∙ s.is

pub own_sight : (st : Plain) (who number began : ℕ) (r : Reply) → IsTrue (is_session st who) → ((session st who).depth ≡ 0 → (session st who).work ≡ []) → see (after st (Said (record { 0 = who }) number began r)) who ≡ sight_by st who (stmt_of st who) r
own_sight st who number began r there idle = answered_sees st who there idle (effect st who (stmt_of st who) r) (sight_by st who (stmt_of st who) r) number (effect_sees st who there idle (stmt_of st who) r)

-- THE COPIES

module _ (st : Plain) (k : ℕ) (snap : List ℕ) where
  -- a snapshot that is still there after another was dropped isn't that one
  apart : (d : List ℕ) → is_snap (without_snap st d) snap ≡ true → bytes_eq snap d ≡ false
  apart d h = elim (cases_Bool (bytes_eq snap d)) [
    | inl t ↦ absurd (let w : true ≡ false = sym h ∙ ap (λ (n : List ℕ). is_some (find (λ s. bytes_eq s.name n) (filter (λ s. not (bytes_eq s.name d)) st.snaps))) (same_bytes snap d t) ∙ none_left d st.snaps in cc)
    | inr f ↦ f
  ]

  dropped_copy : (d : List ℕ) → is_snap (without_snap st d) snap ≡ true → copy (without_snap st d) snap ≡ copy st snap
  dropped_copy d h = ap (λ o. unwrap_or o finite.empty) (others_stay _ d snap (apart d h))

  changed_copy : (cs : List Change) → copy (with_changes st k cs) snap ≡ copy st snap
  changed_copy cs = by ((session st k).depth == 0)
    where
      by : (b : Bool) → copy (cond b (record st { journal = Committed k cs ∷ st.journal }) (with_session st k (record (session st k) { work = (session st k).work ++ cs }))) snap ≡ copy st snap
      by true = refl
      by false = refl

  commit_copy : copy (after_commit st k) snap ≡ copy st snap
  commit_copy = by (nat_le 2 (session st k).depth)
    where
      by : (b : Bool) → copy (cond b (with_session st k (record (session st k) { depth = (session st k).depth - 1 })) (record (with_session st k (outside (session st k))) { journal = Committed k (session st k).work ∷ st.journal })) snap ≡ copy st snap
      by true = refl
      by false = refl

  copy_ok : (stmt : Stmt) → is_snap (effect st k (Some stmt) Ok) snap ≡ true → copy (effect st k (Some stmt) Ok) snap ≡ copy st snap
  copy_ok (UseDb d) h = refl
  copy_ok (CreateTable name cols) h = changed_copy (change_and_reply (CreateTable name cols) (see st k)).0
  copy_ok (DropTable name) h = changed_copy (change_and_reply (DropTable name) (see st k)).0
  copy_ok (Insert i) h = changed_copy (change_and_reply (Insert i) (see st k)).0
  copy_ok (Select s) h = refl
  copy_ok (Update u) h = changed_copy (change_and_reply (Update u) (see st k)).0
  copy_ok (Delete d) h = changed_copy (change_and_reply (Delete d) (see st k)).0
  copy_ok BeginTran h = refl
  copy_ok Commit h = commit_copy
  copy_ok Rollback h = refl
  copy_ok LockTimeoutZero h = refl
  copy_ok (SetLevel level) h = refl
  copy_ok (CreateSnap other files of) h = refl
  copy_ok (DropDb d) h = dropped_copy d h
  copy_ok (Restore d other) h = refl
  copy_ok (Broken at) h = refl

  copy_count : (n : ℕ) (stmt : Stmt) → is_snap (effect st k (Some stmt) (Count n)) snap ≡ true → copy (effect st k (Some stmt) (Count n)) snap ≡ copy st snap
  copy_count n (UseDb d) h = refl
  copy_count n (CreateTable name cols) h = changed_copy (change_and_reply (CreateTable name cols) (see st k)).0
  copy_count n (DropTable name) h = changed_copy (change_and_reply (DropTable name) (see st k)).0
  copy_count n (Insert i) h = changed_copy (change_and_reply (Insert i) (see st k)).0
  copy_count n (Select s) h = refl
  copy_count n (Update u) h = changed_copy (change_and_reply (Update u) (see st k)).0
  copy_count n (Delete d) h = changed_copy (change_and_reply (Delete d) (see st k)).0
  copy_count n BeginTran h = refl
  copy_count n Commit h = commit_copy
  copy_count n Rollback h = refl
  copy_count n LockTimeoutZero h = refl
  copy_count n (SetLevel level) h = refl
  copy_count n (CreateSnap other files of) h = refl
  copy_count n (DropDb d) h = dropped_copy d h
  copy_count n (Restore d other) h = refl
  copy_count n (Broken at) h = refl

  copy_rows : (rows : List (List Value)) (stmt : Stmt) → is_snap (effect st k (Some stmt) (Rows rows)) snap ≡ true → copy (effect st k (Some stmt) (Rows rows)) snap ≡ copy st snap
  copy_rows rows (UseDb d) h = refl
  copy_rows rows (CreateTable name cols) h = changed_copy (change_and_reply (CreateTable name cols) (see st k)).0
  copy_rows rows (DropTable name) h = changed_copy (change_and_reply (DropTable name) (see st k)).0
  copy_rows rows (Insert i) h = changed_copy (change_and_reply (Insert i) (see st k)).0
  copy_rows rows (Select s) h = refl
  copy_rows rows (Update u) h = changed_copy (change_and_reply (Update u) (see st k)).0
  copy_rows rows (Delete d) h = changed_copy (change_and_reply (Delete d) (see st k)).0
  copy_rows rows BeginTran h = refl
  copy_rows rows Commit h = commit_copy
  copy_rows rows Rollback h = refl
  copy_rows rows LockTimeoutZero h = refl
  copy_rows rows (SetLevel level) h = refl
  copy_rows rows (CreateSnap other files of) h = refl
  copy_rows rows (DropDb d) h = dropped_copy d h
  copy_rows rows (Restore d other) h = refl
  copy_rows rows (Broken at) h = refl

  copy_refused : (m : Message) (stmt : Stmt) → is_snap (effect st k (Some stmt) (Msg m)) snap ≡ true → copy (effect st k (Some stmt) (Msg m)) snap ≡ copy st snap
  copy_refused m (UseDb d) h = refl
  copy_refused m (CreateTable name cols) h = refl
  copy_refused m (DropTable name) h = refl
  copy_refused m (Insert i) h = refl
  copy_refused m (Select s) h = refl
  copy_refused m (Update u) h = refl
  copy_refused m (Delete d) h = refl
  copy_refused m BeginTran h = refl
  copy_refused m Commit h = lost (m.number == NO_MEMORY || m.number == LOG_FAILED)
    where
      lost : (b : Bool) → copy (cond b (with_session st k (outside (session st k))) st) snap ≡ copy st snap
      lost true = refl
      lost false = refl
  copy_refused m Rollback h = refl
  copy_refused m LockTimeoutZero h = refl
  copy_refused m (SetLevel level) h = refl
  copy_refused m (CreateSnap other files of) h = failed (m.number == FILE_FAILED) (session st k).making h
    where
      failed : (b : Bool) (o : Option (List ℕ)) → is_snap (cond b (with_doubt (without_made st o) (sparse_names files)) st) snap ≡ true → copy (cond b (with_doubt (without_made st o) (sparse_names files)) st) snap ≡ copy st snap
      failed false o h = refl
      failed true None h = refl
      failed true (Some made) h = dropped_copy made h
  copy_refused m (DropDb d) h = dropped_so (m.number == FILE_NOT_REMOVED) h
    where
      dropped_so : (b : Bool) → is_snap (cond b (with_doubt (without_snap st d) (files_of st d)) st) snap ≡ true → copy (cond b (with_doubt (without_snap st d) (files_of st d)) st) snap ≡ copy st snap
      dropped_so true h = dropped_copy d h
      dropped_so false h = refl
  copy_refused m (Restore d other) h = refl
  copy_refused m (Broken at) h = refl

  effect_copy : (o : Option Stmt) (r : Reply) → is_snap (effect st k o r) snap ≡ true → copy (effect st k o r) snap ≡ copy st snap
  effect_copy None Ok h = refl
  effect_copy None (Count n) h = refl
  effect_copy None (Rows rows) h = refl
  effect_copy None (Msg m) h = refl
  effect_copy (Some stmt) Ok h = copy_ok stmt h
  effect_copy (Some stmt) (Count n) h = copy_count n stmt h
  effect_copy (Some stmt) (Rows rows) h = copy_rows rows stmt h
  effect_copy (Some stmt) (Msg m) h = copy_refused m stmt h

pub cut_copy : (st : Plain) (who : SessNo) (snap other : List ℕ) → copy (after st (CutAt who snap)) other ≡ cond (bytes_eq other snap) (committed st) (copy st other)
cut_copy st who snap other =
    ap (λ o. unwrap_or o finite.empty) (get-insert nat_list_cmp_total (held st.opening st.journal).copies snap (committed st) other ∙ ap (λ b. cond b (Some (committed st)) (finite.get (held st.opening st.journal).copies other)) (is_eq-slice_cmp other snap))
    ∙ by (bytes_eq other snap)
  where
    by : (b : Bool) → unwrap_or (cond b (Some (committed st)) (finite.get (held st.opening st.journal).copies other)) finite.empty ≡ cond b (committed st) (copy st other)
    by true = refl
    by false = refl

-- the copy of a snapshot that is open afterwards, and wasn't cut by the event, is the one that it was
pub copies_are : (st : Plain) (e : Event) (snap : List ℕ) → ((who : SessNo) → e ≡ CutAt who snap → ⊥) → is_snap (after st e) snap ≡ true → copy (after st e) snap ≡ copy st snap
copies_are st (Locked who table mode) snap uncut there = refl
copies_are st (RestoreAt who d) snap uncut there = refl
copies_are st (Turned d) snap uncut there = refl
copies_are st (Left who) snap uncut there = refl
copies_are st (Said who number began reply) snap uncut there = effect_copy st who.0 snap (stmt_of st who.0) reply there
copies_are st (CutAt who d) snap uncut there = elim (cases_Bool (bytes_eq snap d)) [
  | inl t ↦ absurd (uncut who (ap (λ n. CutAt who n) (sym (same_bytes snap d t))))
  | inr f ↦ cut_copy st who d snap ∙ ap (λ b. cond b (committed st) (copy st snap)) f
]
