-- What is committed: the pages with the session's open changes alone are the tables that become the source.
use Rattle.std.proofs.Common.{◌≡◌, ◌≢◌, ℕ, zero, suc, ◌≤◌, true, false, List, [], ◌∷◌, ◌++◌, length, drop, map, refl, ap, sym, subst, ◌∙◌, inl, inr, arith}
use Rattle.std.specs.Prelude.{◌⊎◌, Option, Some, None, slice_get}
use Rattle.std.specs.FinMap as finite
use Rattle.std.specs.List.{Any}
use Rattle.std.specs.Str.{bytes_eq}
use Rattle.std.proofs.lemmas.Bool.{cases_Bool}
use Rattle.std.proofs.lemmas.List.{get_or_default}
use Rattle.page_base.specs.declared.numbers.Mode.{Mode}
use Rattle.page_base.specs.declared.numbers.Mode.TheVariants.{S, X}
use Rattle.page_base.specs.Slots.{Slots}
use Rattle.plain_model.specs.declared.stmt.Stmt.{Stmt}
use Rattle.plain_model.specs.declared.stmt.Stmt.TheVariants.{UseDb, CreateTable, DropTable, Insert, Select, Update, Delete, BeginTran, Commit as CommitTran, Rollback, LockTimeoutZero, SetLevel, CreateSnap, DropDb, Restore, Broken}
use Rattle.plain_model.specs.Free.{is_of_tables}
use Rattle.plain_model.specs.Meaning.{change_and_reply}
use Rattle.plain_model.specs.State.{session, committed, see}
use Rattle.plain_model.specs.Statements.{table_named}
use Rattle.plain_model.specs.Tables.{Tables, apply}
use Rattle.plain_steps.specs.Changes.{AreOf}
use Rattle.plain_steps.specs.Events.{is_write}
use Rattle.plain_steps.specs.Modes.{suffices}
use Rattle.plain_steps.specs.Orderly.{IsOrderly}
use Rattle.plain_steps.specs.Phases.{first_mode, second_mode}
use Rattle.plain_steps.proofs.ApplyLemmas.{rows_stay, changes_of_its}
use Rattle.plain_steps.proofs.LockLemmas.{same_bytes}
use Rattle.plain_steps.proofs.OrderlyLemmas.{orderly_end}
use Rattle.rec_log.specs.Records.{Record}
use Rattle.rec_log.specs.Undone.{undone}
use Rattle.snap_pages.specs.Shown.{counts}
use Rattle.sys_cat.specs.declared.desc.TableDesc.{TableDesc}
use Rattle.page_tables.specs.Bases.{IsBase}
use Rattle.page_tables.specs.Claims.{Claimable}
use Rattle.page_tables.specs.Sheets.{sheets}
use Rattle.page_tables.specs.Writes.{done}
use Rattle.open_work.specs.Open.{all, with_part}
use Rattle.step_words.specs.declared.stage.DbKind.TheVariants.{Source}
use Rattle.step_words.specs.declared.stage.Stage.TheVariants.{End}
use Rattle.step_words.specs.Courses.{Course, is_planned, is_past_all, is_past_table}
use Rattle.step_words.specs.Coming.{coming, draft_write, taken_at}
use Rattle.step_words.specs.Sittings.{stmt_at, undoes_all}
use Rattle.step_words.proofs.TakenLemmas.{none_left}
use Rattle.step_state.specs.State.{State, seat, works, many, machine, slots_at, alone_of, before_of}
use Rattle.step_state.specs.Holding.{is_x, holds_all, lock_at, HasLocks}
use Rattle.step_state.specs.Posed.{IsOnCourse}
use Rattle.step_state.specs.Own.{IsSafeSession}
use Rattle.step_state.specs.Plans.{IsPlanned}
use Rattle.step_state.specs.Told.{IsToldSource}
use Rattle.step_state.specs.Safe.{Safe, IsContent}
use Rattle.safe_say.specs.Committing.{IsCommitting, Ends, Writes, DoesCommit}
use Rattle.safe_say.proofs.CommitMachine.{ends_source, writes_source}
use Rattle.safe_say.proofs.CommitTables.{differ, one_named, stays, of_other, no_work}
use Rattle.safe_say.proofs.CommitWhole.{history}

some_stmt : (a b : Stmt) → Some a ≡ Some b → a ≡ b
some_stmt a b e = ap pick e
  where
    pick : Option Stmt → Stmt
    pick None = a
    pick (Some c) = c

pub some_course : (a b : Course) → Some a ≡ Some b → a ≡ b
some_course a b e = ap pick e
  where
    pick : Option Course → Course
    pick None = a
    pick (Some c) = c

drop_all : (xs : List Record) (n : ℕ) → length xs ≤ n → drop n xs ≡ []
drop_all [] zero le = refl
drop_all [] (suc n) le = refl
drop_all (x ∷ xs) zero le = absurd (omega (arith, le))
drop_all (x ∷ xs) (suc n) le = drop_all xs n (omega (arith, le))

-- a mode that suffices is held; X suffices alone where X is asked
pub suffices_some : (o : Option Mode) (mode : Mode) → suffices o mode ≡ true → o ≢ None
suffices_some None mode e = cc
suffices_some (Some m) mode e = λ n. cc

suffices_x : (o : Option Mode) → suffices o X ≡ true → is_x o ≡ true
suffices_x None e = cc
suffices_x (Some S) e = cc
suffices_x (Some X) e = refl

-- WHICH TABLE A STATEMENT HOLDS

pub record HoldsTable (held : ℕ → Option Mode) (c : Course) : Type 0 where
  pub desc : TableDesc
  pub has : c.desc ≡ Some desc
  pub some : held desc.number.0 ≢ None
  pub writes : is_write c.stmt ≡ true → is_x (held desc.number.0) ≡ true

-- past its own table's lock a statement holds that, unless all tables are held in X
pub holds_table : (held : ℕ → Option Mode) (c : Course) → HasLocks held c → is_of_tables c.stmt ≡ true → is_past_table c.stage ≡ true → is_past_all c.stage ≡ true → holds_all held ≡ false → HoldsTable held c
holds_table held c locks tables past past_all not_all = by c.stmt refl tables
  where
    second : (mode : Mode) → second_mode c.stmt ≡ Some mode → (is_write c.stmt ≡ true → mode ≡ X) → HoldsTable held c
    second mode is w =
        let t = locks.table past mode is in
        record {
          desc = t.0;
          has = t.1;
          some = suffices_some (held t.0.number.0) mode t.2;
          writes = λ u. suffices_x (held t.0.number.0) (sym (ap (suffices (held t.0.number.0)) (w u)) ∙ t.2);
        }

    defines : first_mode c.stmt ≡ X → HoldsTable held c
    defines is = absurd (let all : holds_all held ≡ true = suffices_x (held 0) (sym (ap (suffices (held 0)) is) ∙ locks.all past_all) in let wrong : true ≡ false = sym all ∙ not_all in cc)

    by : (s : Stmt) → c.stmt ≡ s → is_of_tables s ≡ true → HoldsTable held c
    by (CreateTable name cols) is t = defines (ap first_mode is)
    by (DropTable name) is t = defines (ap first_mode is)
    by (Insert i) is t = second X (ap second_mode is) (λ w. refl)
    by (Select s) is t = second S (ap second_mode is) (λ w. (let wrong : false ≡ true = sym (ap is_write is) ∙ w in cc))
    by (Update u) is t = second X (ap second_mode is) (λ w. refl)
    by (Delete d) is t = second X (ap second_mode is) (λ w. refl)
    by (UseDb d) is t = cc
    by BeginTran is t = cc
    by CommitTran is t = cc
    by Rollback is t = cc
    by LockTimeoutZero is t = cc
    by (SetLevel level) is t = cc
    by (CreateSnap snap files of) is t = cc
    by (DropDb d) is t = cc
    by (Restore d snap) is t = cc
    by (Broken at) is t = cc

-- a write's changes are of its own table
pub changes_own : (stmt : Stmt) (tables : Tables) → AreOf (table_named stmt) (change_and_reply stmt tables).0
changes_own stmt tables = changes_of_its stmt _

-- The tables that become the source, on these pages: where the table of tables isn't held in X they are described as before, and
-- those that the session doesn't hold in X are as they were; where it holds nothing the source stays.
pub record IsShown (e s : State) (k : ℕ) (ds : List TableDesc) : Type 0 where
  pub after : List TableDesc
  pub base : IsBase (counts e.pages) (sheets (alone_of e k)) after (committed (machine s))
  pub same : holds_all (lock_at e k) ≡ false → after ≡ ds
  pub kept : holds_all (lock_at e k) ≡ false → (t : TableDesc) → Any (λ f. f ≡ t) ds → is_x (lock_at e k t.number.0) ≡ false → finite.get (committed (machine s)) t.name ≡ finite.get (committed (machine e)) t.name
  pub quiet : lock_at e k 0 ≡ None → committed (machine s) ≡ committed (machine e)

module _ (e s : State) (k : ℕ) (safe : Safe e) (d : DoesCommit e s k) (ds : List TableDesc) (content : IsContent e ds) where
  me : IsSafeSession e k
  me = safe.sessions k d.is

  told : IsToldSource (counts e.pages) ds (seat e k) (lock_at e k) (session (machine e) k) (alone_of e k) (before_of e k) (see (machine e) k)
  told = (content.1 k d.is).source

  pub is_orderly : IsOrderly (machine e)
  is_orderly = orderly_end e.fixed.opening e.fixed.scripts e.events content.0.legal

  -- the statement, as the seat has it
  stmt_is : stmt_at (seat e k).sitting ≡ Some d.stmt
  stmt_is = (λ i. slice_get (me.script i) (sym me.in_step.said i)) ∙ d.has

  -- WHERE A TRANSACTION ENDS

  as_before : length (works e k) ≡ (seat e k).base → before_of e k ≡ alone_of e k
  as_before same =
      let none : drop (seat e k).base (works e k) ≡ [] = drop_all (works e k) (seat e k).base (omega (arith, same)) in
      ap (λ (xs : List Record). undone (all (many e) (with_part (works e) k xs)) (slots_at e)) none

  ended : length (works e k) ≡ (seat e k).base → IsBase (counts e.pages) (sheets (alone_of e k)) ds (see (machine e) k)
  ended same = subst (λ (t : Slots). IsBase (counts e.pages) (sheets t) ds (see (machine e) k)) (as_before same) (told.sees (ap (λ p. undoes_all p (stmt_at (seat e k).sitting)) d.at))

  -- WHERE A STATEMENT DOES

  module _ (c : Course) (has : (seat e k).sitting.course ≡ Some c) (stage : c.stage ≡ End) where
    on : IsOnCourse (counts e.pages) (seat e k) c
    on = me.seated.posed.course c has

    pub its_stmt : c.stmt ≡ d.stmt
    its_stmt = some_stmt c.stmt d.stmt (sym on.lent ∙ stmt_is)

    source : c.at ≡ Source
    source = me.seated.committing d.at c has

    plan : IsPlanned (counts e.pages) ds (lock_at e k) (alone_of e k) (see (machine e) k) c
    plan = told.planned c has source (ap is_planned stage)

    taken : length c.taken ≡ length c.owners
    taken = on.claimed (inr stage)

    nothing_comes : coming c (taken_at c) ≡ []
    nothing_comes = ap (λ ws. ws ++ map (draft_write (taken_at c)) c.edits) (none_left c (taken_at c) (omega (arith, taken))) ∙ ap (map (draft_write (taken_at c))) (on.ended stage)

    claimable : Claimable (counts e.pages) (alone_of e k) c.taken (length c.owners) (taken_at c)
    claimable = record {
      were = λ i lt q. get_or_default c.taken i q (record { file = 0; page = 0 }) lt;
      there = λ i le lt. absurd (omega (arith, le, lt, taken));
      free = λ i le lt. absurd (omega (arith, le, lt, taken));
      differ = λ i j lt l. told.apart c has i j (record { file = 0; page = 0 }) lt (omega (arith, l, taken));
      targets = λ i lt. on.targets i (record { file = 0; page = 0 }) (omega (arith, lt, taken));
    }

    pub its_locks : HasLocks (lock_at e k) c
    its_locks = me.seated.holding c has source

    written : IsBase (counts e.pages) (sheets (alone_of e k)) (plan.after (taken_at c)) (apply (change_and_reply d.stmt (see (machine e) k)).0 (see (machine e) k))
    written = subst (λ t. IsBase (counts e.pages) (sheets (alone_of e k)) (plan.after (taken_at c)) (apply (change_and_reply t (see (machine e) k)).0 (see (machine e) k))) its_stmt
        (subst (λ ws. IsBase (counts e.pages) (sheets (done ws (alone_of e k))) (plan.after (taken_at c)) (apply (change_and_reply c.stmt (see (machine e) k)).0 (see (machine e) k))) nothing_comes (plan.brings.base (taken_at c) claimable))

  -- WHAT BECOMES THE SOURCE

  none_waits : lock_at e k 0 ≡ None → (session (machine e) k).work ≡ []
  none_waits none = no_work ds (lock_at e k) (session (machine e) k).locks (λ n. me.seated.rooted n none) told.agree (session (machine e) k).work (is_orderly.covered k)

  waits_apart : (t : TableDesc) → Any (λ f. f ≡ t) ds → is_x (lock_at e k t.number.0) ≡ false → finite.get (see (machine e) k) t.name ≡ finite.get (committed (machine e)) t.name
  waits_apart t one out = stays ds content.0.source.descs.descs (lock_at e k) (session (machine e) k).locks told.agree t one out (session (machine e) k).work (is_orderly.covered k) (committed (machine e))

  by_end : d.stmt ≡ CommitTran → (session (machine e) k).depth ≡ 1 → length (works e k) ≡ (seat e k).base → IsShown e s k ds
  by_end is one same =
      let now : committed (machine s) ≡ see (machine e) k = ap committed (history e s k safe d) ∙ ends_source (machine e) k d.comes.0 me.in_step.idle d.stmt d.has d.kind d.number (seat e k).began d.reply d.success is one in
      record {
        after = ds;
        base = subst (λ (t : Tables). IsBase (counts e.pages) (sheets (alone_of e k)) ds t) (sym now) (ended same);
        same = λ f. refl;
        kept = λ f t one out. ap (λ (u : Tables). finite.get u t.name) now ∙ waits_apart t one out;
        quiet = λ none. now ∙ ap (λ w. apply w (committed (machine e))) (none_waits none);
      }

  by_write : is_write d.stmt ≡ true → (session (machine e) k).depth ≡ 0 → (c : Course) → (seat e k).sitting.course ≡ Some c → c.stage ≡ End → IsShown e s k ds
  by_write is none c has stage =
      let now : committed (machine s) ≡ apply (change_and_reply d.stmt (see (machine e) k)).0 (see (machine e) k) = ap committed (history e s k safe d) ∙ writes_source (machine e) k d.comes.0 me.in_step.idle d.stmt d.has d.kind d.number (seat e k).began d.reply d.success is none in
      record {
        after = (plan c has stage).after (taken_at c);
        base = subst (λ (t : Tables). IsBase (counts e.pages) (sheets (alone_of e k)) ((plan c has stage).after (taken_at c)) t) (sym now) (written c has stage);
        same = λ f. (plan c has stage).same f (taken_at c);
        kept = λ f t one out.
            let h = holds_table (lock_at e k) c (its_locks c has stage) (on c has stage).tables (ap is_past_table stage) (ap is_past_all stage) f in
            let its = (told.seen c has (source c has stage)).table h.desc h.has in
            let other : bytes_eq t.name (table_named d.stmt) ≡ false = elim (cases_Bool (bytes_eq t.name (table_named d.stmt))) [
              | inr g ↦ g
              | inl g ↦
                  let named : t.name ≡ h.desc.name = same_bytes t.name (table_named d.stmt) g ∙ sym (ap table_named (its_stmt c has stage)) ∙ sym its.1 in
                  let one_of : t ≡ h.desc = one_named ds content.0.source.descs.descs t h.desc one its.0 named in
                  differ (is_x (lock_at e k t.number.0)) (ap (λ (u : TableDesc). is_x (lock_at e k u.number.0)) one_of ∙ h.writes (ap is_write (its_stmt c has stage) ∙ is)) out
            ] in
            ap (λ (u : Tables). finite.get u t.name) now
            ∙ rows_stay (change_and_reply d.stmt (see (machine e) k)).0 (see (machine e) k) t.name (of_other ds content.0.source.descs.descs (table_named d.stmt) (change_and_reply d.stmt (see (machine e) k)).0 t.name (changes_own d.stmt (see (machine e) k)) other)
            ∙ waits_apart t one out;
        quiet = λ no_lock. absurd (suffices_some (lock_at e k 0) (first_mode c.stmt) ((its_locks c has stage).all (ap is_past_all stage)) no_lock);
      }

  pub is_shown : IsShown e s k ds
  is_shown = by d.kind (me.seated.posed.commits d.at)
    where
      by : IsCommitting (session (machine e) k).depth d.stmt → (((seat e k).sitting.course ≡ None) × (stmt_at (seat e k).sitting ≡ Some CommitTran) × (length (works e k) ≡ (seat e k).base)) ⊎ ((c : Course) × ((seat e k).sitting.course ≡ Some c) × (c.stage ≡ End)) → IsShown e s k ds
      by (Ends is one) (inl t) = by_end is one t.2
      by (Ends is one) (inr t) = absurd (let wrong : false ≡ true = sym (ap is_of_tables (its_stmt t.0 t.1 t.2 ∙ is)) ∙ (on t.0 t.1 t.2).tables in cc)
      by (Writes is none) (inl t) = absurd (let wrong : false ≡ true = sym (ap is_write (some_stmt d.stmt CommitTran (sym stmt_is ∙ t.1))) ∙ is in cc)
      by (Writes is none) (inr t) = by_write is none t.0 t.1 t.2
