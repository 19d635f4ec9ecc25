-- What changes of tables leave of one table: what they don't name stays, and columns stay where no table is added or removed.
use Rattle.std.proofs.Common.{◌≡◌, ℕ, true, false, cond, List, [], ◌∷◌, map, refl, ap, sym, ◌∙◌, subst, inl, inr}
use Rattle.std.specs.Prelude.{Option, Some, None, option_map, unwrap_or}
use Rattle.std.specs.FinMap as finite
use Rattle.std.specs.FinMap.{get-insert, get-remove}
use Rattle.std.specs.Cmp.Lexicographic.{nat_list_cmp_total}
use Rattle.std.specs.Str.{bytes_eq}
use Rattle.std.specs.List.{AllByRecursion}
use Rattle.std.specs.declared.result.Result.{Result}
use Rattle.std.specs.declared.result.Result.TheVariants as result
use Rattle.std.proofs.lemmas.Bool.{cases_Bool}
use Rattle.std.proofs.lemmas.Map.Text.{is_eq-slice_cmp}
use Rattle.page_base.specs.declared.column.Column.{Column}
use Rattle.page_base.specs.declared.value.Value.{Value}
use Rattle.plain_model.specs.declared.stmt.Stmt.{Stmt}
use Rattle.plain_model.specs.declared.stmt.Stmt.TheVariants.{CreateTable, DropTable, Insert, Select, Update, Delete}
use Rattle.plain_model.specs.declared.reply.Message.{Message}
use Rattle.plain_model.specs.Messages.{plain}
use Rattle.plain_model.specs.Shapes.{select_fault, insert_fault, update_fault, delete_fault}
use Rattle.plain_model.specs.Outcomes.{taken_from}
use Rattle.plain_model.specs.Inserting.{target_names, new_row, inserted_from}
use Rattle.plain_model.specs.Changing.{updated_row, deleted_row}
use Rattle.plain_model.specs.Tables.{Table, Tables, Change, Put, Cut, Add, Remove, with_row, without_key, changed, applied, apply, rows_of}
use Rattle.plain_model.specs.Meaning.{change_and_reply, shape}
use Rattle.plain_model.specs.Statements.{shape_over, data_over, table_named, is_of_rows, needs, is_new, changes_of}
use Rattle.plain_model.specs.Alone.{answer, or_reply}
use Rattle.plain_steps.proofs.LockLemmas.{same_bytes, bytes_same}
pub use Rattle.plain_steps.specs.Changes.{named_by, IsOfRow}
use Rattle.plain_steps.specs.Changes.{AreOf}

-- A TABLE AMONG TABLES

-- the columns of the table of this name
abbrev pub cols_at : Tables → List ℕ → Option (List Column)
cols_at tables name = option_map (λ t. t.cols) (finite.get tables name)

inserted : (tables : Tables) (name : List ℕ) (t : Table) (q : List ℕ) → finite.get (finite.insert tables name t) q ≡ cond (bytes_eq q name) (Some t) (finite.get tables q)
inserted tables name t q = get-insert nat_list_cmp_total tables name t q ∙ ap (λ b. cond b (Some t) (finite.get tables q)) (is_eq-slice_cmp q name)

removed : (tables : Tables) (name q : List ℕ) → finite.get (finite.remove tables name) q ≡ cond (bytes_eq q name) None (finite.get tables q)
removed tables name q = get-remove nat_list_cmp_total tables name q ∙ ap (λ b. cond b None (finite.get tables q)) (is_eq-slice_cmp q name)

-- a table that is changed, and the others
changed_here : (tables : Tables) (name : List ℕ) (f : Table → Table) → finite.get (changed tables name (finite.get tables name) f) name ≡ option_map f (finite.get tables name)
changed_here tables name f = by (finite.get tables name) refl
  where
    by : (o : Option Table) → finite.get tables name ≡ o → finite.get (changed tables name o f) name ≡ option_map f o
    by None e = e
    by (Some t) e = inserted tables name (f t) name ∙ ap (λ b. cond b (Some (f t)) (finite.get tables name)) (bytes_same name)

changed_there : (tables : Tables) (name q : List ℕ) (f : Table → Table) → bytes_eq q name ≡ false → finite.get (changed tables name (finite.get tables name) f) q ≡ finite.get tables q
changed_there tables name q f ne = by (finite.get tables name)
  where
    by : (o : Option Table) → finite.get (changed tables name o f) q ≡ finite.get tables q
    by None = refl
    by (Some t) = inserted tables name (f t) q ∙ ap (λ b. cond b (Some (f t)) (finite.get tables q)) ne

-- what a change makes of its own table
abbrev of_change : Change → Option Table → Option Table
of_change (Put table row) o = option_map (with_row row) o
of_change (Cut table key) o = option_map (without_key key) o
of_change (Add table cols) o = Some (record { cols = cols; rows = finite.empty })
of_change (Remove table) o = None

-- a change over its own table
pub applied_here : (c : Change) (tables : Tables) → finite.get (applied c tables) (named_by c) ≡ of_change c (finite.get tables (named_by c))
applied_here (Put table row) tables = changed_here tables table (with_row row)
applied_here (Cut table key) tables = changed_here tables table (without_key key)
applied_here (Add table cols) tables = inserted tables table (record { cols = cols; rows = finite.empty }) table ∙ ap (λ b. cond b (Some (record { cols = cols; rows = finite.empty })) (finite.get tables table)) (bytes_same table)
applied_here (Remove table) tables = removed tables table table ∙ ap (λ b. cond b None (finite.get tables table)) (bytes_same table)

-- and over the others
pub applied_there : (c : Change) (tables : Tables) (q : List ℕ) → bytes_eq q (named_by c) ≡ false → finite.get (applied c tables) q ≡ finite.get tables q
applied_there (Put table row) tables q ne = changed_there tables table q (with_row row) ne
applied_there (Cut table key) tables q ne = changed_there tables table q (without_key key) ne
applied_there (Add table cols) tables q ne = inserted tables table (record { cols = cols; rows = finite.empty }) q ∙ ap (λ b. cond b (Some (record { cols = cols; rows = finite.empty })) (finite.get tables q)) ne
applied_there (Remove table) tables q ne = removed tables table q ∙ ap (λ b. cond b None (finite.get tables q)) ne

-- CHANGES OVER TABLES THAT AGREE

-- over tables that have the same table of a name
pub get_apply : (cs : List Change) (a b : Tables) (q : List ℕ) → finite.get a q ≡ finite.get b q → finite.get (apply cs a) q ≡ finite.get (apply cs b) q
get_apply [] a b q e = e
get_apply (c ∷ cs) a b q e = get_apply cs (applied c a) (applied c b) q (elim (cases_Bool (bytes_eq q (named_by c))) [
  | inl t ↦
      let is : named_by c ≡ q = sym (same_bytes q (named_by c) t) in
      subst (λ n. finite.get (applied c a) n ≡ finite.get (applied c b) n) is
      (applied_here c a ∙ ap (of_change c) (subst (λ n. finite.get a n ≡ finite.get b n) (sym is) e) ∙ sym (applied_here c b))
  | inr f ↦ applied_there c a q f ∙ e ∙ sym (applied_there c b q f)
])

cols_change : (c : Change) (o p : Option Table) → option_map (λ t. t.cols) o ≡ option_map (λ t. t.cols) p → option_map (λ (t : Table). t.cols) (of_change c o) ≡ option_map (λ (t : Table). t.cols) (of_change c p)
cols_change (Put table row) None None e = refl
cols_change (Put table row) (Some t) (Some u) e = e
cols_change (Put table row) None (Some u) e = absurd (cc)
cols_change (Put table row) (Some t) None e = absurd (cc)
cols_change (Cut table key) None None e = refl
cols_change (Cut table key) (Some t) (Some u) e = e
cols_change (Cut table key) None (Some u) e = absurd (cc)
cols_change (Cut table key) (Some t) None e = absurd (cc)
cols_change (Add table cols) o p e = refl
cols_change (Remove table) o p e = refl

-- over tables that have the same columns of a name
pub cols_apply : (cs : List Change) (a b : Tables) (q : List ℕ) → cols_at a q ≡ cols_at b q → cols_at (apply cs a) q ≡ cols_at (apply cs b) q
cols_apply [] a b q e = e
cols_apply (c ∷ cs) a b q e = cols_apply cs (applied c a) (applied c b) q (elim (cases_Bool (bytes_eq q (named_by c))) [
  | inl t ↦
      let is : named_by c ≡ q = sym (same_bytes q (named_by c) t) in
      subst (λ n. cols_at (applied c a) n ≡ cols_at (applied c b) n) is
      (ap (option_map (λ (t : Table). t.cols)) (applied_here c a) ∙ cols_change c (finite.get a (named_by c)) (finite.get b (named_by c)) (subst (λ n. cols_at a n ≡ cols_at b n) (sym is) e) ∙ sym (ap (option_map (λ (t : Table). t.cols)) (applied_here c b)))
  | inr f ↦ ap (option_map (λ (t : Table). t.cols)) (applied_there c a q f) ∙ e ∙ sym (ap (option_map (λ (t : Table). t.cols)) (applied_there c b q f))
])

-- CHANGES OF ROWS

row_cols : (c : Change) (o : Option Table) → IsOfRow c → option_map (λ (t : Table). t.cols) (of_change c o) ≡ option_map (λ t. t.cols) o
row_cols (Put table row) None h = refl
row_cols (Put table row) (Some t) h = refl
row_cols (Cut table key) None h = refl
row_cols (Cut table key) (Some t) h = refl
row_cols (Add table cols) o h = absurd h
row_cols (Remove table) o h = absurd h

-- leaves all columns
pub cols_applied : (c : Change) (tables : Tables) (q : List ℕ) → IsOfRow c → cols_at (applied c tables) q ≡ cols_at tables q
cols_applied c tables q h = elim (cases_Bool (bytes_eq q (named_by c))) [
  | inl t ↦ subst (λ n. cols_at (applied c tables) n ≡ cols_at tables n) (sym (same_bytes q (named_by c) t)) (ap (option_map (λ (t : Table). t.cols)) (applied_here c tables) ∙ row_cols c (finite.get tables (named_by c)) h)
  | inr f ↦ ap (option_map (λ (t : Table). t.cols)) (applied_there c tables q f)
]

-- changes of rows leave all columns
pub cols_stay : (cs : List Change) (tables : Tables) (q : List ℕ) → AllByRecursion IsOfRow cs → cols_at (apply cs tables) q ≡ cols_at tables q
cols_stay [] tables q h = refl
cols_stay (c ∷ cs) tables q h = cols_stay cs (applied c tables) q h.1 ∙ cols_applied c tables q h.0

-- and the tables that they don't name
pub rows_stay : (cs : List Change) (tables : Tables) (q : List ℕ) → AllByRecursion (λ c. bytes_eq q (named_by c) ≡ false) cs → finite.get (apply cs tables) q ≡ finite.get tables q
rows_stay [] tables q h = refl
rows_stay (c ∷ cs) tables q h = rows_stay cs (applied c tables) q h.1 ∙ applied_there c tables q h.0

-- a row's change in this table
abbrev pub IsIn : List ℕ → Change → Type 0
IsIn table c = IsOfRow c × (named_by c ≡ table)

all_in : (make : List Value → Change) (table : List ℕ) (each : (row : List Value) → IsIn table (make row)) (r : Result (List (List Value)) Message) → AllByRecursion (IsIn table) (changes_of make r).0
all_in make table each (result.Ok rows) = go rows
  where
    go : (rows : List (List Value)) → AllByRecursion (IsIn table) (map make rows)
    go [] = tt
    go (row ∷ rows) = (each row, go rows)
all_in make table each (result.Err m) = tt

-- what a statement on rows changes are rows of its table
pub data_in : (stmt : Stmt) (t : Table) → is_of_rows stmt ≡ true → AllByRecursion (IsIn (table_named stmt)) (data_over stmt t).0
data_in (Insert i) t h = all_in (Put i.table) i.table (λ row. (tt, refl)) (inserted_from t.cols (finite.keys t.rows) 1 (map (new_row (target_names i.cols t.cols) t.cols) i.rows))
data_in (Update u) t h = all_in (Put u.table) u.table (λ row. (tt, refl)) (taken_from 1 (map (updated_row u.sets u.filter t.cols) (rows_of t)))
data_in (Delete d) t h = all_in (Cut d.table) d.table (λ row. (tt, refl)) (taken_from 1 (map (deleted_row d.filter t.cols) (rows_of t)))
data_in (Select s) t h = tt
data_in stmt t h = absurd (let x : false ≡ true = h in cc)

those : (table : List ℕ) (cs : List Change) → AllByRecursion (IsIn table) cs → AreOf table cs
those table [] a = tt
those table (c ∷ cs) a = (a.0.1, those table cs a.1)

-- whatever a statement changes is of its table
pub changes_of_its : (stmt : Stmt) (t : Table) → AreOf (table_named stmt) (data_over stmt t).0
changes_of_its (Insert i) t = those (i.table) (data_over (Insert i) t).0 (data_in (Insert i) t refl)
changes_of_its (Update u) t = those (u.table) (data_over (Update u) t).0 (data_in (Update u) t refl)
changes_of_its (Delete d) t = those (d.table) (data_over (Delete d) t).0 (data_in (Delete d) t refl)
changes_of_its (Select s) t = tt
changes_of_its (CreateTable name cols) t = (refl, tt)
changes_of_its (DropTable name) t = (refl, tt)
changes_of_its stmt t = tt

-- what a statement changes and replies reads its table
pub outcome_reads : (stmt : Stmt) (a b : Tables) → finite.get a (table_named stmt) ≡ finite.get b (table_named stmt) → change_and_reply stmt a ≡ change_and_reply stmt b
outcome_reads stmt a b e = ap (λ (o : Option Table). data_over stmt (unwrap_or o (record { cols = []; rows = finite.empty }))) e

-- WHAT AN ANSWER READS

-- an answer reads its statement's table
pub answer_reads : (stmt : Stmt) (a b : Tables) → finite.get a (table_named stmt) ≡ finite.get b (table_named stmt) → answer stmt a ≡ answer stmt b
answer_reads stmt a b e = ap (λ (o : Option Table). or_reply (shape_over stmt o) (data_over stmt (unwrap_or o (record { cols = []; rows = finite.empty }))).1) e

needs_cols : (fault : List Column → Option ℕ) (o p : Option Table) → option_map (λ (t : Table). t.cols) o ≡ option_map (λ (t : Table). t.cols) p → needs fault o ≡ needs fault p
needs_cols fault None None e = refl
needs_cols fault (Some t) (Some u) e = let same : t.cols ≡ u.cols = cc in ap (λ cols. option_map plain (fault cols)) same
needs_cols fault None (Some u) e = absurd (cc)
needs_cols fault (Some t) None e = absurd (cc)

new_cols : (o p : Option Table) → option_map (λ (t : Table). t.cols) o ≡ option_map (λ (t : Table). t.cols) p → is_new o ≡ is_new p
new_cols None None e = refl
new_cols (Some t) (Some u) e = refl
new_cols None (Some u) e = absurd (cc)
new_cols (Some t) None e = absurd (cc)

shape_cols : (stmt : Stmt) (o p : Option Table) → option_map (λ (t : Table). t.cols) o ≡ option_map (λ (t : Table). t.cols) p → shape_over stmt o ≡ shape_over stmt p
shape_cols (CreateTable name cols) o p e = new_cols o p e
shape_cols (DropTable name) o p e = needs_cols (λ cols. None) o p e
shape_cols (Insert i) o p e = needs_cols (insert_fault i) o p e
shape_cols (Select s) o p e = needs_cols (select_fault s) o p e
shape_cols (Update u) o p e = needs_cols (update_fault u) o p e
shape_cols (Delete d) o p e = needs_cols (delete_fault d) o p e
shape_cols stmt o p e = refl

-- a refusal by shape reads its columns
pub shape_reads : (stmt : Stmt) (a b : Tables) → cols_at a (table_named stmt) ≡ cols_at b (table_named stmt) → shape stmt a ≡ shape stmt b
shape_reads stmt a b e = shape_cols stmt (finite.get a (table_named stmt)) (finite.get b (table_named stmt)) e
