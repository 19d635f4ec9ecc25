-- Tables stay tables under changes whose rows are right, and what statements change is right.
use Rattle.std.proofs.Common.{◌≡◌, inl, inr, ℕ, true, false, List, [], ◌∷◌, length, refl, ap, sym, ◌∙◌, subst}
use Rattle.std.specs.Prelude.{Option, Some, None, option_map, unwrap_or, ◌==◌}
use Rattle.std.specs.List.{AllByRecursion}
use Rattle.std.specs.Str.{bytes_eq}
use Rattle.std.specs.FinMap as finite
use Rattle.std.specs.FinMap.{get-empty}
use Rattle.std.specs.Cmp.Lexicographic.{slice_cmp}
use Rattle.std.specs.Ordering.{nat_cmp}
use Rattle.std.proofs.lemmas.Bool.{cases_Bool}
use Rattle.page_base.specs.declared.column.Column.{Column}
use Rattle.page_base.specs.declared.value.Value.{Value}
use Rattle.plain_model.specs.declared.stmt.Stmt.{Stmt}
use Rattle.plain_model.specs.declared.stmt.Stmt.TheVariants.{CreateTable, DropTable, Insert, Select, Update, Delete}
use Rattle.plain_model.specs.declared.reply.TheConstants.Message.{NO_TABLE}
use Rattle.plain_model.specs.Messages.{plain}
use Rattle.plain_model.specs.Sound.{is_sound, is_definition, are_columns}
use Rattle.plain_model.specs.Tables.{Table, Tables, Change, Put, Cut, Add, Remove, with_row, without_key, applied, apply}
use Rattle.plain_model.specs.Meaning.{shape, change_and_reply, table_in}
use Rattle.plain_model.specs.Statements.{shape_over, data_over, table_named, is_of_rows}
use Rattle.row_fmt.specs.Rows.{IsRowOf}
use Rattle.row_types.specs.Puts.{Puts}
use Rattle.row_types.specs.Limits.{KeepsLimits}
use Rattle.row_types.proofs.PutLemmas.{puts_what_is_held, puts_what_is_small}
use Rattle.plain_steps.specs.Good.{AreGood}
use Rattle.plain_steps.proofs.LockLemmas.{same_bytes}
use Rattle.plain_steps.proofs.ApplyLemmas.{cols_at, named_by, applied_here, applied_there, cols_applied, IsOfRow, IsIn, data_in}
use Rattle.plain_steps.proofs.ComingLemmas.{IsNoBad}
use Rattle.plain_steps.proofs.RowLemmas.{IsRight, IsSound, good_of, sound_of, sound_new, sound_put, sound_cut}

-- TABLES

-- each of these tables is sound
pub record AreSound (tables : Tables) : Type 0 where
  pub each : (name : List ℕ) (t : Table) → finite.get tables name ≡ Some t → IsSound t

-- good tables are sound
pub all_sound : (tables : Tables) → AreGood tables → AreSound tables
all_sound tables h = record { each = λ name t e. sound_of t (h name t e) }

-- and sound tables are good
pub all_good : (tables : Tables) → AreSound tables → AreGood tables
all_good tables h name t e = good_of t (h.each name t e)

-- where there are none, each is sound
pub none_sound : AreSound finite.empty
none_sound = record { each = λ name t e. absurd (let x : None ≡ Some t = sym (get-empty (slice_cmp nat_cmp) name) ∙ e in cc) }

-- a change puts a row that is right by the columns of its table, and adds a good definition
abbrev pub Fits : Tables → Change → Type 0
Fits tables (Put table row) = (cols : List Column) → cols_at tables table ≡ Some cols → IsRight cols row
Fits tables (Cut table key) = Unit {0}
Fits tables (Add table cols) = is_definition cols ≡ true
Fits tables (Remove table) = Unit {0}

-- so it is over any tables with the same columns
pub fits_over : (a b : Tables) (c : Change) → ((q : List ℕ) → cols_at b q ≡ cols_at a q) → Fits a c → Fits b c
fits_over a b (Put table row) same h = λ cols e. h cols (sym (same table) ∙ e)
fits_over a b (Cut table key) same h = tt
fits_over a b (Add table cols) same h = h
fits_over a b (Remove table) same h = tt

-- so it is of many changes
pub all_fit_over : (a b : Tables) (cs : List Change) → ((q : List ℕ) → cols_at b q ≡ cols_at a q) → AllByRecursion (Fits a) cs → AllByRecursion (Fits b) cs
all_fit_over a b [] same h = tt
all_fit_over a b (c ∷ cs) same h = (fits_over a b c same h.0, all_fit_over a b cs same h.1)

-- what a change makes of its own table
put_sound : (o : Option Table) (row : List Value) (t : Table) → ((u : Table) → o ≡ Some u → IsSound u × IsRight u.cols row) → option_map (with_row row) o ≡ Some t → IsSound t
put_sound None row t h e = absurd (cc)
put_sound (Some u) row t h e = let same : with_row row u ≡ t = cc in let k = h u refl in subst IsSound same (sound_put row u k.1 k.0)

cut_sound : (o : Option Table) (key : List Value) (t : Table) → ((u : Table) → o ≡ Some u → IsSound u) → option_map (without_key key) o ≡ Some t → IsSound t
cut_sound None key t h e = absurd (cc)
cut_sound (Some u) key t h e = let same : without_key key u ≡ t = cc in subst IsSound same (sound_cut key u (h u refl))

here_sound : (c : Change) (tables : Tables) (t : Table) → AreSound tables → Fits tables c → finite.get (applied c tables) (named_by c) ≡ Some t → IsSound t
here_sound (Put table row) tables t h f e = put_sound (finite.get tables table) row t (λ u is. (h.each table u is, f u.cols (ap (option_map (λ (x : Table). x.cols)) is))) (sym (applied_here (Put table row) tables) ∙ e)
here_sound (Cut table key) tables t h f e = cut_sound (finite.get tables table) key t (λ u is. h.each table u is) (sym (applied_here (Cut table key) tables) ∙ e)
here_sound (Add table cols) tables t h f e =
    let is : Some (record { cols = cols; rows = finite.empty }) ≡ Some t = sym (applied_here (Add table cols) tables) ∙ e in
    let same : record { cols = cols; rows = finite.empty } ≡ t = cc in
    subst IsSound same (sound_new cols f)
here_sound (Remove table) tables t h f e = absurd (let x : None ≡ Some t = sym (applied_here (Remove table) tables) ∙ e in cc)

-- one change
pub applied_sound : (c : Change) (tables : Tables) → AreSound tables → Fits tables c → AreSound (applied c tables)
applied_sound c tables h f = record {
  each = λ q t e. elim (cases_Bool (bytes_eq q (named_by c))) [
    | inl same ↦ here_sound c tables t h f (subst (λ n. finite.get (applied c tables) n ≡ Some t) (same_bytes q (named_by c) same) e)
    | inr other ↦ h.each q t (sym (applied_there c tables q other) ∙ e)
  ];
}

-- changes of rows
pub apply_sound : (cs : List Change) (tables : Tables) → AreSound tables → AllByRecursion IsOfRow cs → AllByRecursion (Fits tables) cs → AreSound (apply cs tables)
apply_sound [] tables h rows f = h
apply_sound (c ∷ cs) tables h rows f = apply_sound cs (applied c tables) (applied_sound c tables h f.0) rows.1 (all_fit_over tables (applied c tables) cs (λ q. cols_applied c tables q rows.0) f.1)

-- WHAT A STATEMENT CHANGES

only_rows : (table : List ℕ) (cs : List Change) → AllByRecursion (IsIn table) cs → AllByRecursion IsOfRow cs
only_rows table [] h = tt
only_rows table (c ∷ cs) h = (h.0.0, only_rows table cs h.1)

one_fits : (tables : Tables) (table : List ℕ) (t : Table) (c : Change) → finite.get tables table ≡ Some t → IsIn table c → Puts (IsRowOf t.cols) (c ∷ []) → Puts (KeepsLimits t.cols) (c ∷ []) → Fits tables c
one_fits tables table t (Put name row) e is held small = λ cols f.
    let there : cols_at tables name ≡ Some t.cols = ap (cols_at tables) is.1 ∙ ap (option_map (λ (x : Table). x.cols)) e in
    let both : Some t.cols ≡ Some cols = sym there ∙ f in
    let same : t.cols ≡ cols = cc in
    subst (λ (cs : List Column). IsRight cs row) same (record { held = held.0; small = small.0 })
one_fits tables table t (Cut name key) e is held small = tt
one_fits tables table t (Add name cols) e is held small = absurd is.0
one_fits tables table t (Remove name) e is held small = tt

first_put : (P : List Value → Type 0) (c : Change) (cs : List Change) → Puts P (c ∷ cs) → Puts P (c ∷ []) × Puts P cs
first_put P (Put table row) cs h = ((h.0, tt), h.1)
first_put P (Cut table key) cs h = (tt, h)
first_put P (Add table cols) cs h = (tt, h)
first_put P (Remove table) cs h = (tt, h)

all_fit : (tables : Tables) (table : List ℕ) (t : Table) (cs : List Change) → finite.get tables table ≡ Some t → AllByRecursion (IsIn table) cs → Puts (IsRowOf t.cols) cs → Puts (KeepsLimits t.cols) cs → AllByRecursion (Fits tables) cs
all_fit tables table t [] e is held small = tt
all_fit tables table t (c ∷ cs) e is held small =
    let a = first_put (IsRowOf t.cols) c cs held in
    let b = first_put (KeepsLimits t.cols) c cs small in
    (one_fits tables table t c e is.0 a.0 b.0, all_fit tables table t cs e is.1 a.1 b.1)

-- a statement on rows that suits its table has one
has_table : (stmt : Stmt) (o : Option Table) → is_of_rows stmt ≡ true → shape_over stmt o ≡ None → (t : Table) × (o ≡ Some t)
has_table stmt (Some t) of e = (t, refl)
has_table (Insert i) None of e = absurd (let x : Some (plain NO_TABLE) ≡ None = e in cc)
has_table (Update u) None of e = absurd (let x : Some (plain NO_TABLE) ≡ None = e in cc)
has_table (Delete d) None of e = absurd (let x : Some (plain NO_TABLE) ≡ None = e in cc)
has_table (Select s) None of e = absurd (let x : Some (plain NO_TABLE) ≡ None = e in cc)
has_table stmt None of e = absurd (let x : false ≡ true = of in cc)

-- what it changes is right
pub data_fits : (stmt : Stmt) (tables : Tables) → is_of_rows stmt ≡ true → is_sound stmt ≡ true → AreSound tables → shape stmt tables ≡ None → AllByRecursion (Fits tables) (change_and_reply stmt tables).0
data_fits stmt tables of sound h e =
    let there = has_table stmt (finite.get tables (table_named stmt)) of e in
    let t : Table = there.0 in
    let good = good_of t (h.each (table_named stmt) t there.1) in
    let suits : shape_over stmt (Some t) ≡ None = ap (shape_over stmt) (sym there.1) ∙ e in
    let is : t ≡ table_in tables (table_named stmt) = sym (ap (λ (o : Option Table). unwrap_or o (record { cols = []; rows = finite.empty })) there.1) in
    subst (λ (u : Table). AllByRecursion (Fits tables) (data_over stmt u).0) is
    (all_fit tables (table_named stmt) t (data_over stmt t).0 there.1 (data_in stmt t of) (puts_what_is_held stmt t sound good.fits good.held suits) (puts_what_is_small stmt t sound good.fits good.small suits))

-- over these rows it leaves sound tables
pub rows_sound : (stmt : Stmt) (tables : Tables) → is_of_rows stmt ≡ true → is_sound stmt ≡ true → AreSound tables → shape stmt tables ≡ None → AreSound (apply (change_and_reply stmt tables).0 tables)
rows_sound stmt tables of sound h e =
    apply_sound (change_and_reply stmt tables).0 tables h (only_rows (table_named stmt) (change_and_reply stmt tables).0 (data_in stmt (table_in tables (table_named stmt)) of)) (data_fits stmt tables of sound h e)

columns_good : (cols : List Column) → are_columns cols ≡ true → (length cols == 0) ≡ false → is_definition cols ≡ true
columns_good [] h e = absurd (let x : true ≡ false = e in cc)
columns_good (c ∷ cs) h e = h

-- and so does one that makes or drops a table
pub tables_sound : (stmt : Stmt) (tables : Tables) → IsNoBad stmt → is_sound stmt ≡ true → AreSound tables → shape stmt tables ≡ None → AreSound (apply (change_and_reply stmt tables).0 tables)
tables_sound (CreateTable name cols) tables good sound h e = applied_sound (Add name cols) tables h (columns_good cols sound (good name cols refl))
tables_sound (DropTable name) tables good sound h e = applied_sound (Remove name) tables h tt
tables_sound (Insert i) tables good sound h e = rows_sound (Insert i) tables refl sound h e
tables_sound (Update u) tables good sound h e = rows_sound (Update u) tables refl sound h e
tables_sound (Delete d) tables good sound h e = rows_sound (Delete d) tables refl sound h e
tables_sound stmt tables good sound h e = h
