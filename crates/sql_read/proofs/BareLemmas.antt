-- A sentence says one statement, wherever the parts of its expressions lie in memory.
use Rattle.std.specs.Prelude.{map, Option, Some, None, option_map}
use Rattle.std.proofs.Common.{◌≡◌, ℕ, Bool, List, [], ◌∷◌, length, ap, sym, ◌∙◌, refl}
use Rattle.plain_model.specs.declared.expr.Expr.{Expr}
use Rattle.plain_model.specs.declared.stmt.Items.{Items}
use Rattle.plain_model.specs.declared.stmt.Items.TheVariants as items
use Rattle.plain_model.specs.declared.stmt.Level.{Level}
use Rattle.plain_model.specs.declared.stmt.OrderItem.{OrderItem}
use Rattle.plain_model.specs.declared.stmt.SetItem.{SetItem}
use Rattle.plain_model.specs.declared.stmt.SnapFile.{SnapFile}
use Rattle.plain_model.specs.declared.stmt.SelectStmt.{SelectStmt}
use Rattle.plain_model.specs.declared.stmt.Stmt.{Stmt}
use Rattle.plain_model.specs.declared.stmt.Stmt.TheVariants as stmt
use Rattle.plain_model.specs.declared.stmt.Sum.{Sum}
use Rattle.plain_model.specs.declared.stmt.Sum.TheVariants.{CountAll, SumOf}
use Rattle.plain_model.specs.Tree.{Tree, tree_of}
use Rattle.table_def.specs.declared.parts.ColumnOption.{ColumnOption}
use Rattle.table_def.specs.declared.parts.ColumnPart.{ColumnPart}
use Rattle.table_def.specs.declared.parts.TablePart.{TablePart}
use Rattle.table_def.specs.declared.parts.TablePart.TheVariants.{Column as ColumnOf, Key as KeyOf}
use Rattle.table_def.specs.declared.parts.WrittenType.{WrittenType}
use Rattle.table_def.specs.declared.parts.WrittenType.TheVariants.{Varchar}
use Rattle.table_def.specs.Defined.{columns_of}
use Rattle.sql_form.specs.Form.{Value, Left, Right}
use Rattle.sql_stmt.specs.Defining.{SaysVarchar, SaysType, SaysColumnPart, SaysKeyPart, SaysPart}
use Rattle.sql_stmt.specs.Defining as defining
use Rattle.sql_stmt.specs.Saying.{SaysName, SaysExpr, SayEach, SaysOption, SaysList, SaysFilter, SaysColumns, SaysRow, SaysSetting, SaysFile}
use Rattle.sql_stmt.specs.Selecting.{SaysSum, SaysSums, SaysShown, SaysDown, SaysOrderItem, SaysOrder, SaysSelectSums, SaysSelectRows}
use Rattle.sql_stmt.specs.Stmts.{SaysUse, SaysCreateTable, SaysCreateSnap, SaysCreate, SaysDropTable, SaysDropDatabase, SaysDrop, SaysStructure, SaysInsertion, SaysUpdating, SaysDeletion, SaysChange, SaysBegin, SaysCommit, SaysRollback, SaysTimeout, SaysLevel, SaysIsolation, SaysSet, SaysRestore, SaysTurn, SaysSelection, SaysStatement, SaysEnded}
use Rattle.sql_stmt.specs.ChangeForms.{insert, update, delete, row, setting}
use Rattle.sql_stmt.specs.DatabaseForms.{create_snap, drop_database, restore, snap_file}
use Rattle.sql_stmt.specs.Pieces.{where_truth, column_list}
use Rattle.sql_stmt.specs.SelectForms.{select, select_sums, select_rows, aggregate, shown, direction, order_item, order_by}
use Rattle.sql_stmt.specs.SessionForms.{use_database, begin_transaction, commit, rollback, timeout, level, isolation, set_session}
use Rattle.sql_stmt.specs.Statements.{create, drop, structure, change, turn, statement, ended}
use Rattle.sql_stmt.specs.TableForms.{create_table, drop_table, varchar, column_type, column_option, column_part, table_part}
use Rattle.sql_read.specs.Bare.{Bare, BareItems, bare, bare_sum, bare_items, bare_set}
use Rattle.sql_read.specs.Grammar.{IsBatch}
use Rattle.sql_read.proofs.BatchLemmas.{same_value}

-- what says the same values one by one is the same one by one
each_same : {R V B : Type 0} (says : R → V → Type 0) (f : R → B) → ((r s : R) (v : V) → says r v → says s v → f r ≡ f s) → (rs ss : List R) (vs : List V) → SayEach says rs vs → SayEach says ss vs → map f rs ≡ map f ss
each_same says f one [] [] vs h k = refl
each_same says f one [] (s ∷ ss) [] h k = absurd k
each_same says f one [] (s ∷ ss) (v ∷ vs) h k = absurd h
each_same says f one (r ∷ rs) [] [] h k = absurd h
each_same says f one (r ∷ rs) [] (v ∷ vs) h k = absurd k
each_same says f one (r ∷ rs) (s ∷ ss) [] h k = absurd h
each_same says f one (r ∷ rs) (s ∷ ss) (v ∷ vs) h k = rw (one r s v h.0 k.0, each_same says f one rs ss vs h.1 k.1) refl

map_self : {A : Type 0} (xs : List A) → map (λ x. x) xs ≡ xs
map_self [] = refl
map_self (x ∷ xs) = ap (λ ys. x ∷ ys) (map_self xs)

-- so it is of what is compared as it stands
each_equal : {R V : Type 0} (says : R → V → Type 0) → ((r s : R) (v : V) → says r v → says s v → r ≡ s) → (rs ss : List R) (vs : List V) → SayEach says rs vs → SayEach says ss vs → rs ≡ ss
each_equal says one rs ss vs h k = sym (map_self rs) ∙ each_same says (λ r. r) one rs ss vs h k ∙ map_self ss

name_same : (a b v : List ℕ) → SaysName a v → SaysName b v → a ≡ b
name_same a b v h k = h ∙ sym k

expr_same : (e f : Expr) (t : Tree) → SaysExpr e t → SaysExpr f t → tree_of e ≡ tree_of f
expr_same e f t h k = h ∙ sym k

filter_same : (o p : Option Expr) (v : Option (Value where_truth)) → SaysOption SaysFilter o v → SaysOption SaysFilter p v → option_map tree_of o ≡ option_map tree_of p
filter_same None None v h k = refl
filter_same None (Some f) None h k = absurd k
filter_same None (Some f) (Some v) h k = absurd h
filter_same (Some e) None None h k = absurd h
filter_same (Some e) None (Some v) h k = absurd k
filter_same (Some e) (Some f) None h k = absurd h
filter_same (Some e) (Some f) (Some (word, t)) h k = ap Some (h ∙ sym k)

columns_same : (a b : List (List ℕ)) (v : Value column_list) → SaysColumns a v → SaysColumns b v → a ≡ b
columns_same a b (left, (vs, right)) h k = each_equal SaysName name_same a b vs h k

column_lists_same : (a b : List (List ℕ)) (v : Option (Value column_list)) → SaysList SaysColumns a v → SaysList SaysColumns b v → a ≡ b
column_lists_same a b None h k = h ∙ sym k
column_lists_same a b (Some v) h k = columns_same a b v h k

row_same : (a b : List Expr) (v : Value row) → SaysRow a v → SaysRow b v → map tree_of a ≡ map tree_of b
row_same a b (left, (vs, right)) h k = each_same SaysExpr tree_of expr_same a b vs h k

insertion_same : (s u : Stmt) (v : Value insert) → SaysInsertion s v → SaysInsertion u v → bare s ≡ bare u
insertion_same (stmt.Insert i) (stmt.Insert j) (word, (into, (table, (cols, (values, rows))))) h k =
    rw (h.0, k.0, column_lists_same i.cols j.cols cols h.1 k.1, each_same SaysRow (map tree_of) row_same i.rows j.rows rows h.2 k.2) refl
insertion_same (stmt.Insert i) _ v h k = absurd k
insertion_same _ u v h k = absurd h

sum_same : (a b : Sum) (v : Value aggregate) → SaysSum a v → SaysSum b v → bare_sum a ≡ bare_sum b
sum_same CountAll CountAll v h k = refl
sum_same CountAll (SumOf f) (Left v) h k = absurd k
sum_same CountAll (SumOf f) (Right v) h k = absurd h
sum_same (SumOf e) CountAll (Left v) h k = absurd h
sum_same (SumOf e) CountAll (Right v) h k = absurd k
sum_same (SumOf e) (SumOf f) (Left v) h k = absurd h
sum_same (SumOf e) (SumOf f) (Right (word, (left, (t, right)))) h k = ap Some (h ∙ sym k)

sums_same : (a b : Items) (vs : List (Value aggregate)) → SaysSums a vs → SaysSums b vs → bare_items a ≡ bare_items b
sums_same (items.Sums a) (items.Sums b) vs h k = ap BareItems.Sums (each_same SaysSum bare_sum sum_same a b vs h k)
sums_same (items.Sums a) _ vs h k = absurd k
sums_same _ b vs h k = absurd h

shown_same : (a b : Items) (v : Value shown) → SaysShown a v → SaysShown b v → bare_items a ≡ bare_items b
shown_same items.Star items.Star v h k = refl
shown_same items.Star (items.Exprs b) (Left v) h k = absurd k
shown_same items.Star (items.Exprs b) (Right v) h k = absurd h
shown_same (items.Exprs a) items.Star (Left v) h k = absurd h
shown_same (items.Exprs a) items.Star (Right v) h k = absurd k
shown_same (items.Exprs a) (items.Exprs b) (Left v) h k = absurd h
shown_same (items.Exprs a) (items.Exprs b) (Right vs) h k = ap BareItems.Exprs (each_same SaysExpr tree_of expr_same a b vs h k)
shown_same (items.Sums a) b v h k = absurd h
shown_same a (items.Sums b) v h k = absurd k

down_same : (a b : Bool) (v : Option (Value direction)) → SaysDown a v → SaysDown b v → a ≡ b
down_same a b None h k = h ∙ sym k
down_same a b (Some (Left v)) h k = h ∙ sym k
down_same a b (Some (Right v)) h k = h ∙ sym k

order_item_same : (a b : OrderItem) (v : Value order_item) → SaysOrderItem a v → SaysOrderItem b v → a ≡ b
order_item_same a b (name, down) h k = let P : List ℕ → Bool → OrderItem = λ col down. record { col = col; down = down } in ap (λ col. P col a.down) (h.0 ∙ sym k.0) ∙ ap (P b.col) (down_same a.down b.down down h.1 k.1)

order_same : (a b : List OrderItem) (v : Option (Value order_by)) → SaysList SaysOrder a v → SaysList SaysOrder b v → a ≡ b
order_same a b None h k = h ∙ sym k
order_same a b (Some (word, (by, vs))) h k = each_equal SaysOrderItem order_item_same a b vs h k

select_parts : (t u : List ℕ) (i j : BareItems) (f g : Option Tree) (o p : List OrderItem) → t ≡ u → i ≡ j → f ≡ g → o ≡ p → Bare.Select t i f o ≡ Bare.Select u j g p
select_parts t u i j f g o p a b c d = rw (a, b, c, d) refl

select_sums_same : (s u : SelectStmt) (v : Value select_sums) → SaysSelectSums s v → SaysSelectSums u v → bare (stmt.Select s) ≡ bare (stmt.Select u)
select_sums_same s u (sums, (word, (table, filter))) h k =
    select_parts s.table u.table _ _ _ _ s.order u.order (h.1.0 ∙ sym k.1.0) (sums_same s.items u.items sums h.0 k.0) (filter_same s.filter u.filter filter h.1.1 k.1.1) (h.2 ∙ sym k.2)

select_rows_same : (s u : SelectStmt) (v : Value select_rows) → SaysSelectRows s v → SaysSelectRows u v → bare (stmt.Select s) ≡ bare (stmt.Select u)
select_rows_same s u (items, ((word, (table, filter)), order)) h k =
    select_parts s.table u.table _ _ _ _ s.order u.order (h.1.0 ∙ sym k.1.0) (shown_same s.items u.items items h.0 k.0) (filter_same s.filter u.filter filter h.1.1 k.1.1) (order_same s.order u.order order h.2 k.2)

selection_same : (s u : Stmt) (v : Value select) → SaysSelection s v → SaysSelection u v → bare s ≡ bare u
selection_same (stmt.Select s) (stmt.Select u) (word, Left v) h k = select_sums_same s u v h k
selection_same (stmt.Select s) (stmt.Select u) (word, Right v) h k = select_rows_same s u v h k
selection_same (stmt.Select s) _ v h k = absurd k
selection_same _ u v h k = absurd h

setting_same : (a b : SetItem) (v : Value setting) → SaysSetting a v → SaysSetting b v → bare_set a ≡ bare_set b
setting_same a b (name, (equal, t)) h k =
    let P : List ℕ → Tree → List ℕ × Tree = λ col to. (col, to) in ap (λ n. P n (tree_of a.to)) (h.0 ∙ sym k.0) ∙ ap (P b.col) (h.1 ∙ sym k.1)

updating_same : (s u : Stmt) (v : Value update) → SaysUpdating s v → SaysUpdating u v → bare s ≡ bare u
updating_same (stmt.Update a) (stmt.Update b) (word, (table, (set, (sets, filter)))) h k =
    rw (h.0, k.0, each_same SaysSetting bare_set setting_same a.sets b.sets sets h.1 k.1, filter_same a.filter b.filter filter h.2 k.2) refl
updating_same (stmt.Update a) _ v h k = absurd k
updating_same _ u v h k = absurd h

deletion_same : (s u : Stmt) (v : Value delete) → SaysDeletion s v → SaysDeletion u v → bare s ≡ bare u
deletion_same (stmt.Delete a) (stmt.Delete b) (word, (from, (table, filter))) h k = rw (h.0, k.0, filter_same a.filter b.filter filter h.1 k.1) refl
deletion_same (stmt.Delete a) _ v h k = absurd k
deletion_same _ u v h k = absurd h

use_same : (s u : Stmt) (v : Value use_database) → SaysUse s v → SaysUse u v → bare s ≡ bare u
use_same (stmt.UseDb a) (stmt.UseDb b) (word, name) h k = rw (h, k) refl
use_same (stmt.UseDb a) _ v h k = absurd k
use_same _ u v h k = absurd h

file_same : (a b : SnapFile) (v : Value snap_file) → SaysFile a v → SaysFile b v → a ≡ b
file_same a b (left, ((word, (equal, name)), (comma, ((file_word, (also_equal, text)), right)))) h k =
    let P : List ℕ → List ℕ → SnapFile = λ logical path. record { logical = logical; path = path } in ap (λ n. P n a.path) (h.0 ∙ sym k.0) ∙ ap (P b.logical) (h.1 ∙ sym k.1)

create_snap_same : (s u : Stmt) (v : Value create_snap) → SaysCreateSnap s v → SaysCreateSnap u v → bare s ≡ bare u
create_snap_same (stmt.CreateSnap a fs of) (stmt.CreateSnap b gs source) (word, (name, (on, (files, (as_word, (snapshot, (of_word, source_name))))))) h k =
    rw (h.0, k.0, each_equal SaysFile file_same fs gs files h.1 k.1, h.2, k.2) refl
create_snap_same (stmt.CreateSnap a fs of) _ v h k = absurd k
create_snap_same _ u v h k = absurd h

varchar_same : (a b : WrittenType) (v : Value varchar) → SaysVarchar a v → SaysVarchar b v → a ≡ b
varchar_same (Varchar m) (Varchar n) (word, (left, (length, right))) h k = ap Varchar (h ∙ sym k)
varchar_same (Varchar m) _ v h k = absurd k
varchar_same _ b v h k = absurd h

type_same : (a b : WrittenType) (v : Value column_type) → SaysType a v → SaysType b v → a ≡ b
type_same a b (Left v) h k = h ∙ sym k
type_same a b (Right (Left v)) h k = h ∙ sym k
type_same a b (Right (Right v)) h k = varchar_same a b v h k

option_same : (a b : ColumnOption) (v : Value column_option) → defining.SaysOption a v → defining.SaysOption b v → a ≡ b
option_same a b (Left v) h k = h ∙ sym k
option_same a b (Right (Left v)) h k = h ∙ sym k
option_same a b (Right (Right v)) h k = h ∙ sym k

column_part_same : (a b : ColumnPart) (v : Value column_part) → SaysColumnPart a v → SaysColumnPart b v → a ≡ b
column_part_same a b (name, (kind, options)) h k =
    let P : List ℕ → WrittenType → List ColumnOption → ColumnPart = λ name kind options. record { name = name; kind = kind; options = options } in
    ap (λ n. P n a.kind a.options) (h.0 ∙ sym k.0) ∙ ap (λ t. P b.name t a.options) (type_same a.kind b.kind kind h.1 k.1) ∙ ap (P b.name b.kind) (each_equal defining.SaysOption option_same a.options b.options options h.2 k.2)

part_same : (a b : TablePart) (v : Value table_part) → SaysPart a v → SaysPart b v → a ≡ b
part_same (ColumnOf a) (ColumnOf b) (Left v) h k = ap ColumnOf (column_part_same a b v h k)
part_same (ColumnOf a) (ColumnOf b) (Right v) h k = absurd h
part_same (ColumnOf a) (KeyOf b) (Left v) h k = absurd k
part_same (ColumnOf a) (KeyOf b) (Right v) h k = absurd h
part_same (KeyOf a) (ColumnOf b) (Left v) h k = absurd h
part_same (KeyOf a) (ColumnOf b) (Right v) h k = absurd k
part_same (KeyOf a) (KeyOf b) (Left v) h k = absurd h
part_same (KeyOf a) (KeyOf b) (Right (constraint, (primary_key, columns))) h k = ap KeyOf (columns_same a b columns h k)

create_table_same : (s u : Stmt) (v : Value create_table) → SaysCreateTable s v → SaysCreateTable u v → bare s ≡ bare u
create_table_same (stmt.CreateTable a cols) (stmt.CreateTable b more) (word, (table, (left, (vs, right)))) h k =
    let parts : h.1 ≡ k.1 = each_equal SaysPart part_same h.1 k.1 vs h.2 k.2 in
    let same : cols ≡ more = h.3 ∙ ap columns_of parts ∙ sym k.3 in
    rw (h.0, k.0, same) refl
create_table_same (stmt.CreateTable a cols) _ v h k = absurd k
create_table_same _ u v h k = absurd h

drop_table_same : (s u : Stmt) (v : Value drop_table) → SaysDropTable s v → SaysDropTable u v → bare s ≡ bare u
drop_table_same (stmt.DropTable a) (stmt.DropTable b) (word, table) h k = rw (h, k) refl
drop_table_same (stmt.DropTable a) _ v h k = absurd k
drop_table_same _ u v h k = absurd h

drop_database_same : (s u : Stmt) (v : Value drop_database) → SaysDropDatabase s v → SaysDropDatabase u v → bare s ≡ bare u
drop_database_same (stmt.DropDb a) (stmt.DropDb b) (word, name) h k = rw (h, k) refl
drop_database_same (stmt.DropDb a) _ v h k = absurd k
drop_database_same _ u v h k = absurd h

begin_same : (s u : Stmt) (v : Value begin_transaction) → SaysBegin s v → SaysBegin u v → bare s ≡ bare u
begin_same stmt.BeginTran stmt.BeginTran v h k = refl
begin_same stmt.BeginTran _ v h k = absurd k
begin_same _ u v h k = absurd h

commit_same : (s u : Stmt) (v : Value commit) → SaysCommit s v → SaysCommit u v → bare s ≡ bare u
commit_same stmt.Commit stmt.Commit v h k = refl
commit_same stmt.Commit _ v h k = absurd k
commit_same _ u v h k = absurd h

rollback_same : (s u : Stmt) (v : Value rollback) → SaysRollback s v → SaysRollback u v → bare s ≡ bare u
rollback_same stmt.Rollback stmt.Rollback v h k = refl
rollback_same stmt.Rollback _ v h k = absurd k
rollback_same _ u v h k = absurd h

timeout_same : (s u : Stmt) (v : Value timeout) → SaysTimeout s v → SaysTimeout u v → bare s ≡ bare u
timeout_same stmt.LockTimeoutZero stmt.LockTimeoutZero v h k = refl
timeout_same stmt.LockTimeoutZero _ v h k = absurd k
timeout_same _ u v h k = absurd h

level_same : (a b : Level) (v : Value level) → SaysLevel a v → SaysLevel b v → a ≡ b
level_same a b (Left v) h k = h ∙ sym k
level_same a b (Right v) h k = h ∙ sym k

isolation_same : (s u : Stmt) (v : Value isolation) → SaysIsolation s v → SaysIsolation u v → bare s ≡ bare u
isolation_same (stmt.SetLevel a) (stmt.SetLevel b) (transaction, (isolation, (level, v))) h k = rw (level_same a b v h k) refl
isolation_same (stmt.SetLevel a) _ v h k = absurd k
isolation_same _ u v h k = absurd h

session_same : (s u : Stmt) (v : Value set_session) → SaysSet s v → SaysSet u v → bare s ≡ bare u
session_same s u (word, Left v) h k = timeout_same s u v h k
session_same s u (word, Right v) h k = isolation_same s u v h k

restore_same : (s u : Stmt) (v : Value restore) → SaysRestore s v → SaysRestore u v → bare s ≡ bare u
restore_same (stmt.Restore a b) (stmt.Restore c d) (word, (database, (name, (from, (snap_word, (equal, text)))))) h k = rw (h.0, k.0, h.1, k.1) refl
restore_same (stmt.Restore a b) _ v h k = absurd k
restore_same _ u v h k = absurd h

create_same : (s u : Stmt) (v : Value create) → SaysCreate s v → SaysCreate u v → bare s ≡ bare u
create_same s u (word, Left v) h k = create_table_same s u v h k
create_same s u (word, Right v) h k = create_snap_same s u v h k

drop_same : (s u : Stmt) (v : Value drop) → SaysDrop s v → SaysDrop u v → bare s ≡ bare u
drop_same s u (word, Left v) h k = drop_table_same s u v h k
drop_same s u (word, Right v) h k = drop_database_same s u v h k

structure_same : (s u : Stmt) (v : Value structure) → SaysStructure s v → SaysStructure u v → bare s ≡ bare u
structure_same s u (Left v) h k = use_same s u v h k
structure_same s u (Right (Left v)) h k = create_same s u v h k
structure_same s u (Right (Right v)) h k = drop_same s u v h k

change_same : (s u : Stmt) (v : Value change) → SaysChange s v → SaysChange u v → bare s ≡ bare u
change_same s u (Left v) h k = insertion_same s u v h k
change_same s u (Right (Left v)) h k = updating_same s u v h k
change_same s u (Right (Right v)) h k = deletion_same s u v h k

turn_same : (s u : Stmt) (v : Value turn) → SaysTurn s v → SaysTurn u v → bare s ≡ bare u
turn_same s u (Left v) h k = begin_same s u v h k
turn_same s u (Right (Left v)) h k = commit_same s u v h k
turn_same s u (Right (Right (Left v))) h k = rollback_same s u v h k
turn_same s u (Right (Right (Right (Left v)))) h k = session_same s u v h k
turn_same s u (Right (Right (Right (Right v)))) h k = restore_same s u v h k

statement_same : (s u : Stmt) (v : Value statement) → SaysStatement s v → SaysStatement u v → bare s ≡ bare u
statement_same s u (Left v) h k = selection_same s u v h k
statement_same s u (Right (Left v)) h k = structure_same s u v h k
statement_same s u (Right (Right (Left v))) h k = change_same s u v h k
statement_same s u (Right (Right (Right v))) h k = turn_same s u v h k

ended_same : (s u : Stmt) (v : Value ended) → SaysEnded s v → SaysEnded u v → bare s ≡ bare u
ended_same s u (v, semicolons) h k = statement_same s u v h k

-- a batch has one reading
pub one_reading : (bytes : List ℕ) (ss us : List Stmt) → IsBatch bytes ss → IsBatch bytes us → map bare ss ≡ map bare us
one_reading bytes ss us a b = each_same SaysEnded bare ended_same ss us b.value (rw (same_value bytes ss us a b) at a.says) b.says
