-- No SELECT in a snapshot takes a lock or is refused for one.
use Rattle.std.proofs.Common.{◌≡◌, ◌≢◌, ◌+◌, ℕ, Bool, true, false, ◌||◌, not, cond, List, [], ◌∷◌, map, refl, ap, sym, ◌∙◌, subst, inl, inr, ◌⊎◌, eq-eqb}
use Rattle.std.specs.Prelude.{Option, Some, None, ◌==◌, find, is_some, option_map}
use Rattle.std.specs.List.{list_any}
use Rattle.std.specs.Str.{bytes_eq}
use Rattle.std.specs.declared.result.Result.{Result}
use Rattle.std.specs.declared.result.Result.TheVariants as result
use Rattle.std.proofs.lemmas.Bool.{cases_Bool, and_parts, or_parts, or_from}
use Rattle.page_base.specs.declared.value.Value.{Value}
use Rattle.page_base.specs.declared.column.Column.{Column}
use Rattle.plain_model.specs.declared.stmt.Stmt.{Stmt}
use Rattle.plain_model.specs.declared.stmt.Stmt.TheVariants.{Select}
use Rattle.plain_model.specs.declared.stmt.SelectStmt.{SelectStmt}
use Rattle.plain_model.specs.declared.stmt.Items.{Items}
use Rattle.plain_model.specs.declared.stmt.Items.TheVariants.{Star, Exprs, Sums}
use Rattle.plain_model.specs.declared.stmt.OrderItem.{OrderItem}
use Rattle.plain_model.specs.declared.stmt.Sum.{Sum}
use Rattle.plain_model.specs.declared.expr.Expr.{Expr}
use Rattle.plain_model.specs.declared.event.Event.{Event}
use Rattle.plain_model.specs.declared.event.Event.TheVariants.{Locked, Said}
use Rattle.plain_model.specs.declared.reply.Message.{Message}
use Rattle.plain_model.specs.declared.reply.Reply.{Reply}
use Rattle.plain_model.specs.declared.reply.Reply.TheVariants.{Ok, Count, Rows, Msg}
use Rattle.plain_model.specs.declared.reply.TheConstants.Message.{LOCKED, NO_TABLE, NO_COLUMN, TYPE_CLASH, SUSPECT, NOT_BUILT}
use Rattle.plain_model.specs.Messages.{plain, first_that}
use Rattle.plain_model.specs.Meaning.{shape}
use Rattle.plain_model.specs.Statements.{shape_over, selected}
use Rattle.plain_model.specs.Shapes.{select_fault, are_lost, are_ill, is_lost_filter, is_ill_filter}
use Rattle.plain_model.specs.Names.{is_unknown}
use Rattle.plain_model.specs.Outcomes.{Outcome, Refused, Passed, Taken, after_row, taken_from, all_of, or_overflow, keeps, behind}
use Rattle.plain_model.specs.Selecting.{shown, shown_of, selected_row, rows_reply}
use Rattle.plain_model.specs.Totals.{argument, summed_row, aggregates_from, totals_row, totals_reply}
use Rattle.plain_model.specs.Tables.{Table, rows_of}
use Rattle.plain_model.specs.Journal.{Opening, OpenedSnap}
use Rattle.plain_model.specs.State.{Plain, Snap, session, stmt_of, copy, start, master, is_source, is_snap, is_suspect, opened_snap}
use Rattle.plain_model.specs.Next.{Next, Replies, Wants, Cuts, Restores, Silent, unless, unless_shape, answers, is_built, next_of, next_select}
use Rattle.plain_model.specs.Free.{IsFree, NoMemory, NoMemoryToCommit, NoMemoryToCut, NoMemoryToRestore, NoFrame, DataFailed, LogFailed, RevertNotLogged, NoRoom, FileFailed, FileNotRemoved, NameTaken}
use Rattle.plain_model.specs.Legal.{Legal, MayCome, after, end}
use Rattle.plain_model.specs.Unlocked.{IsOpening, IsUnlocked, AreUnlocked, reads_snap, is_select}
use Rattle.plain_steps.proofs.SplitLemmas.{legal_before, legal_behind, along}
use Rattle.plain_steps.proofs.LockLemmas.{same_bytes}
use Rattle.plain_steps.proofs.GainLemmas.{gains}
use Rattle.plain_steps.proofs.StepLemmas.{named}
use Rattle.plain_steps.proofs.EventLemmas.{step}

-- NO SNAPSHOT HAS THE SOURCE'S NAME

abbrev IsApart : Plain → Type 0
IsApart st = named st.snaps st.opening.source ≡ false

apart_after : (st : Plain) (e : Event) → IsApart st → MayCome st e → IsApart (after st e)
apart_after st e h may = let x = step st e may in ap (λ (o : Opening). named (after st e).snaps o.source) x.opening ∙ x.snaps h

opened_apart : (source : List ℕ) (ss : List OpenedSnap) → list_any (λ s. bytes_eq s.name source || bytes_eq s.name master) ss ≡ false → named (map opened_snap ss) source ≡ false
opened_apart source [] h = refl
opened_apart source (s ∷ ss) h =
    let p = or_parts (bytes_eq s.name source || bytes_eq s.name master) (list_any (λ s. bytes_eq s.name source || bytes_eq s.name master) ss) h in
    let q = or_parts (bytes_eq s.name source) (bytes_eq s.name master) p.0 in
    or_from (bytes_eq s.name source) (named (map opened_snap ss) source) q.0 (opened_apart source ss p.1)

apart_end : (opening : Opening) (scripts : List (List Stmt)) (es : List Event) → IsOpening opening → Legal opening scripts es → IsApart (end opening scripts es)
apart_end opening scripts es is legal = along IsApart apart_after (start opening scripts) es (opened_apart opening.source opening.snaps is.apart) legal

not_found : (d : List ℕ) (ss : List Snap) → named ss d ≡ false → is_some (find (λ s. bytes_eq s.name d) ss) ≡ false
not_found d [] h = refl
not_found d (s ∷ ss) h =
    let p = or_parts (bytes_eq s.name d) (named ss d) h in
    ap (λ b. is_some (cond b (Some s) (find (λ s. bytes_eq s.name d) ss))) p.0 ∙ not_found d ss p.1

-- who is in a snapshot isn't in the source
elsewhere : (st : Plain) (d : List ℕ) → IsApart st → is_snap st d ≡ true → is_source st d ≡ false
elsewhere st d h there = elim (cases_Bool (is_source st d)) [
  | inl t ↦ absurd (let x : true ≡ false = sym there ∙ ap (is_snap st) (same_bytes d st.opening.source t) ∙ not_found st.opening.source st.snaps h in cc)
  | inr f ↦ f
]

-- WHAT IS NO REFUSAL FOR A LOCK

abbrev is_locked : Reply → Bool
is_locked (Msg m) = m.number == LOCKED
is_locked Ok = false
is_locked (Count n) = false
is_locked (Rows rows) = false

abbrev refuses_on : Next → Bool
refuses_on (Replies r) = is_locked r
refuses_on (Wants name mode) = false
refuses_on (Cuts snap) = false
refuses_on (Restores snap) = false
refuses_on Silent = false

free_unlocked : (st : Plain) (k : ℕ) (o : Option Stmt) (r : Reply) → IsFree st k o r → is_locked r ≡ false
free_unlocked st k o r (NoMemory stmt a b) = refl
free_unlocked st k o r (NoMemoryToCommit a) = refl
free_unlocked st k o r (NoMemoryToCut snap files of a) = refl
free_unlocked st k o r (NoMemoryToRestore d snap) = refl
free_unlocked st k o r (NoFrame stmt pins a) = refl
free_unlocked st k o r (DataFailed stmt count a) = refl
free_unlocked st k o r (LogFailed stmt success count a b c) = refl
free_unlocked st k o r (RevertNotLogged d snap count a) = refl
free_unlocked st k o r (NoRoom stmt success a b c) = refl
free_unlocked st k o r (FileFailed snap files of a) = refl
free_unlocked st k o r (FileNotRemoved d a) = refl
free_unlocked st k o r (NameTaken snap files of a b) = refl

one_check : (b : Bool) (m : Message) (n : Next) → is_locked (Msg m) ≡ false → refuses_on n ≡ false → refuses_on (unless ((b, m) ∷ []) n) ≡ false
one_check true m n l h = l
one_check false m n l h = h

shape_check : (o : Option Message) (n : Next) → ((m : Message) → o ≡ Some m → is_locked (Msg m) ≡ false) → refuses_on n ≡ false → refuses_on (unless_shape o n) ≡ false
shape_check None n l h = h
shape_check (Some m) n l h = l m refl

fault_unlocked : (o : Option ℕ) → ((n : ℕ) → o ≡ Some n → (n == LOCKED) ≡ false) → (m : Message) → option_map plain o ≡ Some m → is_locked (Msg m) ≡ false
fault_unlocked None l m e = absurd (cc)
fault_unlocked (Some n) l m e = let same : plain n ≡ m = cc in subst (λ (x : Message). is_locked (Msg x) ≡ false) same (l n refl)

two_faults : (a b : Bool) (n : ℕ) → first_that ((a, NO_COLUMN) ∷ (b, TYPE_CLASH) ∷ []) ≡ Some n → (n == LOCKED) ≡ false
two_faults true b n e = let same : NO_COLUMN ≡ n = cc in subst (λ x. (x == LOCKED) ≡ false) same refl
two_faults false true n e = let same : TYPE_CLASH ≡ n = cc in subst (λ x. (x == LOCKED) ≡ false) same refl
two_faults false false n e = absurd (cc)

select_shape : (s : SelectStmt) (o : Option Table) (m : Message) → shape_over (Select s) o ≡ Some m → is_locked (Msg m) ≡ false
select_shape s None m e = let same : plain NO_TABLE ≡ m = cc in subst (λ (x : Message). is_locked (Msg x) ≡ false) same refl
select_shape s (Some t) m e = fault_unlocked (select_fault s t.cols)
    (two_faults (are_lost t.cols s.items || (is_lost_filter t.cols s.filter || list_any (λ o. is_unknown t.cols o.col) s.order)) (are_ill t.cols s.items || is_ill_filter t.cols s.filter)) m e

-- ROWS THAT ARE REFUSED

abbrev out_locked : {A : Type 0} → Outcome A → Bool
out_locked (Refused n) = n == LOCKED
out_locked Passed = false
out_locked (Taken x) = false

abbrev err_locked : {A : Type 0} → Result A Message → Bool
err_locked (result.Ok x) = false
err_locked (result.Err m) = m.number == LOCKED

row_unlocked : {A : Type 0} (place : ℕ) (o : Outcome A) (later : Result (List A) Message) → out_locked o ≡ false → err_locked later ≡ false → err_locked (after_row place o later) ≡ false
row_unlocked place (Refused n) later h g = h
row_unlocked place Passed later h g = g
row_unlocked place (Taken x) (result.Ok xs) h g = refl
row_unlocked place (Taken x) (result.Err m) h g = g

taken_unlocked : {A : Type 0} (f : List Value → Outcome A) → ((row : List Value) → out_locked (f row) ≡ false) → (place : ℕ) (rows : List (List Value)) → err_locked (taken_from place (map f rows)) ≡ false
taken_unlocked f each place [] = refl
taken_unlocked {A} f each place (row ∷ rows) = row_unlocked {A = A} place (f row) (taken_from (place + 1) (map f rows)) (each row) (taken_unlocked f each (place + 1) rows)

kept_unlocked : {A : Type 0} (o : Option Bool) (x : Outcome A) → out_locked x ≡ false → out_locked (behind o x) ≡ false
kept_unlocked None x h = refl
kept_unlocked (Some true) x h = h
kept_unlocked (Some false) x h = refl

value_unlocked : {A : Type 0} (o : Option A) → out_locked (or_overflow o) ≡ false
value_unlocked None = refl
value_unlocked (Some x) = refl

rows_unlocked : (cols : List Column) (order : List OrderItem) (r : Result (List (List Value × List Value)) Message) → err_locked r ≡ false → is_locked (rows_reply cols order r) ≡ false
rows_unlocked cols order (result.Ok taken) h = refl
rows_unlocked cols order (result.Err m) h = h

row_unlocked_totals : (o : Option (List Value)) → is_locked (totals_row o) ≡ false
row_unlocked_totals None = refl
row_unlocked_totals (Some values) = refl

totals_unlocked : (cols : List Column) (sums : List Sum) (r : Result (List (List Value)) Message) → err_locked r ≡ false → is_locked (totals_reply cols sums r) ≡ false
totals_unlocked cols sums (result.Ok taken) h = row_unlocked_totals (all_of (aggregates_from cols taken 0 sums))
totals_unlocked cols sums (result.Err m) h = h

shown_unlocked : (items : Items) (filter : Option Expr) (order : List OrderItem) (t : Table) → is_locked (rows_reply t.cols order (taken_from 1 (map (selected_row items filter t.cols) (rows_of t)))) ≡ false
shown_unlocked items filter order t = rows_unlocked t.cols order (taken_from 1 (map (selected_row items filter t.cols) (rows_of t)))
    (taken_unlocked (selected_row items filter t.cols) (λ row. kept_unlocked (keeps t.cols filter row) (or_overflow (option_map (λ values. (row, map shown values)) (shown_of items t.cols row))) (value_unlocked (option_map (λ values. (row, map shown values)) (shown_of items t.cols row)))) 1 (rows_of t))

selected_unlocked : (items : Items) (filter : Option Expr) (order : List OrderItem) (t : Table) → is_locked (selected items filter order t) ≡ false
selected_unlocked Star filter order t = shown_unlocked Star filter order t
selected_unlocked (Exprs es) filter order t = shown_unlocked (Exprs es) filter order t
selected_unlocked (Sums ss) filter order t = totals_unlocked t.cols ss (taken_from 1 (map (summed_row ss filter t.cols) (rows_of t)))
    (taken_unlocked (summed_row ss filter t.cols) (λ row. kept_unlocked (keeps t.cols filter row) (or_overflow (all_of (map (argument t.cols row) ss))) (value_unlocked (all_of (map (argument t.cols row) ss)))) 1 (rows_of t))

-- A SELECT IN A SNAPSHOT

of_select : (o : Option Stmt) → is_select o ≡ true → (s : SelectStmt) × (o ≡ Some (Select s))
of_select (Some (Select s)) e = (s, refl)
of_select None e = absurd (let x : false ≡ true = e in cc)
of_select (Some stmt) e = absurd (let x : false ≡ true = e in cc)

snapshot_unlocked : (st : Plain) (k : ℕ) (s : SelectStmt) → is_source st (session st k).current ≡ false → is_snap st (session st k).current ≡ true → refuses_on (next_of st k (Some (Select s))) ≡ false
snapshot_unlocked st k s away there =
    let current = (session st k).current in
    let tables = copy st current in
    one_check (not (is_built (Select s))) (plain NOT_BUILT) (next_select st k (Select s) s.table) refl
    (rw (away, there) (one_check (is_suspect st current) (plain SUSPECT) (unless_shape (shape (Select s) tables) (answers (Select s) tables)) refl
    (shape_check (shape (Select s) tables) (answers (Select s) tables) (select_shape s _) (selected_unlocked s.items s.filter s.order _))))

-- AN EVENT

reads_parts : (st : Plain) (k : ℕ) → IsApart st → reads_snap st k ≡ true → (is_select (stmt_of st k) ≡ true) × (is_snap st (session st k).current ≡ true) × (is_source st (session st k).current ≡ false)
reads_parts st k apart e =
    let p = and_parts (is_select (stmt_of st k)) (is_snap st (session st k).current) e in
    (p.0, p.1, elsewhere st (session st k).current apart p.1)

said_unlocked : (st : Plain) (k : ℕ) (m : Message) → IsApart st → (next_of st k (stmt_of st k) ≡ Replies (Msg m)) ⊎ IsFree st k (stmt_of st k) (Msg m) → reads_snap st k ≡ true → m.number ≢ LOCKED
said_unlocked st k m apart comes reads is =
    let locked : is_locked (Msg m) ≡ true = eq-eqb m.number LOCKED is in
    elim comes [
      | inl e ↦
          let p = reads_parts st k apart reads in
          let o = of_select (stmt_of st k) p.0 in
          let x : false ≡ true = sym (snapshot_unlocked st k o.0 p.2 p.1) ∙ ap refuses_on (sym (ap (next_of st k) o.1) ∙ e) ∙ locked in absurd (cc)
      | inr f ↦ let x : false ≡ true = sym (free_unlocked st k (stmt_of st k) (Msg m) f) ∙ locked in absurd (cc)
    ]

event_unlocked : (st : Plain) (e : Event) → IsApart st → MayCome st e → IsUnlocked st e
event_unlocked st (Locked who table mode) apart may = elim (cases_Bool (reads_snap st who.0)) [
  | inl reads ↦ absurd (let p = reads_parts st who.0 apart reads in let g = gains st who.0 table mode may.1 in let x : true ≡ false = sym g.here ∙ p.2 in cc)
  | inr f ↦ f
]
event_unlocked st (Said who number began (Msg m)) apart may = said_unlocked st who.0 m apart may.3
event_unlocked st e apart may = tt

-- no SELECT in a snapshot takes a lock or is refused for one
pub are_unlocked : AreUnlocked
are_unlocked opening scripts before later e is legal =
    event_unlocked (end opening scripts before) e (apart_end opening scripts before is (legal_before (start opening scripts) before (e ∷ later) legal)) (legal_behind (start opening scripts) before (e ∷ later) legal).0
