-- A statement that is said by the grammar is a sound one.
use Rattle.std.specs.Prelude.{◌&&◌, nat_le, Option, Some, None}
use Rattle.std.specs.List.{list_all}
use Rattle.std.proofs.Common.{◌≡◌, ℕ, ◌≤◌, Bool, true, false, List, [], ◌∷◌, ◌++◌, length, ap, sym, ◌∙◌, refl, arith}
use Rattle.std.proofs.lemmas.Bool.{le-leb}
use Rattle.plain_model.specs.declared.expr.Expr.{Expr}
use Rattle.plain_model.specs.declared.stmt.Stmt.{Stmt}
use Rattle.plain_model.specs.declared.stmt.Stmt.TheVariants as stmt
use Rattle.plain_model.specs.declared.stmt.DeleteStmt.{DeleteStmt}
use Rattle.plain_model.specs.declared.stmt.InsertStmt.{InsertStmt}
use Rattle.plain_model.specs.declared.stmt.Items.{Items}
use Rattle.plain_model.specs.declared.stmt.Items.TheVariants as items
use Rattle.plain_model.specs.declared.stmt.SelectStmt.{SelectStmt}
use Rattle.plain_model.specs.declared.stmt.SetItem.{SetItem}
use Rattle.plain_model.specs.declared.stmt.Sum.{Sum}
use Rattle.plain_model.specs.declared.stmt.Sum.TheVariants.{CountAll, SumOf}
use Rattle.plain_model.specs.declared.stmt.UpdateStmt.{UpdateStmt}
use Rattle.plain_model.specs.Sound.{is_value_expr, is_filter, is_entry, is_sum, are_items, are_columns, is_sound}
use Rattle.plain_model.specs.Tree.{Tree}
use Rattle.table_def.specs.Parts.{written}
use Rattle.table_def.proofs.Good.{columns_are_good}
use Rattle.sql_lex.specs.declared.token.Token.{Token}
use Rattle.sql_lex.specs.declared.token.TokenKind.TheVariants.{End}
use Rattle.sql_lex.specs.Tokens.{token}
use Rattle.sql_expr.specs.Laws.{are_printed}
use Rattle.sql_expr.proofs.Promises.{both}
use Rattle.sql_form.specs.Form.{Form, Value, May, Left, Right}
use Rattle.sql_form.specs.Grammar.{IsForm, AreMany}
use Rattle.sql_form.specs.Rules.{strict}
use Rattle.sql_form.proofs.Complete.{complete}
use Rattle.sql_form.proofs.PlainLemmas.{plain_is}
use Rattle.sql_stmt.specs.Saying.{SaysExpr, SayEach, SaysOption, SaysFilter, SaysRow, SaysInsert, SaysSetting, SaysUpdate, SaysDelete}
use Rattle.sql_stmt.specs.Selecting.{SaysSum, SaysSums, SaysShown, SaysSelectSums, SaysSelectRows}
use Rattle.sql_stmt.specs.Stmts.{SaysUse, SaysCreateTable, SaysCreateSnap, SaysCreate, SaysDropTable, SaysDropDatabase, SaysDrop, SaysStructure, SaysInsertion, SaysUpdating, SaysDeletion, SaysChange, SaysBegin, SaysCommit, SaysRollback, SaysTimeout, SaysIsolation, SaysSet, SaysRestore, SaysTurn, SaysSelection, SaysStatement, SaysEnded}
use Rattle.sql_lex.specs.declared.keyword.Keyword.TheVariants as word
use Rattle.sql_stmt.specs.ChangeForms.{row, rows, insert, setting, update, delete}
use Rattle.sql_stmt.specs.DatabaseForms.{create_snap, drop_database, restore}
use Rattle.sql_stmt.specs.Pieces.{key, column_list, where_truth}
use Rattle.sql_stmt.specs.SelectForms.{aggregate, shown, select_sums, select_rows, select}
use Rattle.sql_stmt.specs.SessionForms.{use_database, begin_transaction, commit, rollback, timeout, isolation, set_session}
use Rattle.sql_stmt.specs.Statements.{create, drop, structure, change, turn, statement, ended, batch}
use Rattle.sql_stmt.specs.TableForms.{drop_table, table_part, table_parts, create_table}
use Rattle.sql_stmt.proofs.CountLemmas.{few_rows, few_columns, written_columns, how_many, is_column_value}
use Rattle.sql_stmt.proofs.SoundLemmas.{is_good, are_good, and_left, and_right, printed_parts, good_form}

-- what is said one by one is right one by one
each_sound : {R V : Type 0} (says : R → V → Type 0) (good : V → Bool) (sound : R → Bool) → ((r : R) (v : V) → says r v → good v ≡ true → sound r ≡ true) → (rs : List R) (vs : List V) → SayEach says rs vs → list_all good vs ≡ true → list_all sound rs ≡ true
each_sound says good sound one [] [] h g = refl
each_sound says good sound one [] (v ∷ vs) h g = absurd h
each_sound says good sound one (r ∷ rs) [] h g = absurd h
each_sound says good sound one (r ∷ rs) (v ∷ vs) h g =
    both (sound r) (list_all sound rs) (one r v h.0 (and_left (good v) (list_all good vs) g)) (each_sound says good sound one rs vs h.1 (and_right (good v) (list_all good vs) g))

as_many : {R V : Type 0} (says : R → V → Type 0) (rs : List R) (vs : List V) → SayEach says rs vs → length rs ≡ length vs
as_many says [] [] h = refl
as_many says [] (v ∷ vs) h = absurd h
as_many says (r ∷ rs) [] h = absurd h
as_many says (r ∷ rs) (v ∷ vs) h = let e = as_many says rs vs h.1 in omega (arith, e)

value_sound : (e : Expr) (t : Tree) → SaysExpr e t → is_good true false t ≡ true → is_value_expr e ≡ true
value_sound e t h g = rw h g

entry_sound : (e : Expr) (t : Tree) → SaysExpr e t → is_good false false t ≡ true → is_entry e ≡ true
entry_sound e t h g = rw h g

filter_sound : (o : Option Expr) (v : Option (Value where_truth)) → SaysOption SaysFilter o v → are_good (May where_truth) v ≡ true → is_filter o ≡ true
filter_sound None None h g = refl
filter_sound None (Some v) h g = absurd h
filter_sound (Some e) None h g = absurd h
filter_sound (Some e) (Some (first_word, t)) h g = rw h g

row_sound : (es : List Expr) (v : Value row) → SaysRow es v → are_good row v ≡ true → list_all is_entry es ≡ true
row_sound es (left, (vs, right)) h g = each_sound SaysExpr (is_good false false) is_entry entry_sound es vs h (and_left (list_all (is_good false false) vs) true g)

few_rows_of : (vs : List (Value row)) (ts : List Token) → IsForm strict rows vs ts → length vs ≤ 1000
few_rows_of vs ts h = few_rows (ts ++ token 0 End ∷ []) vs (token 0 End ∷ []) (complete strict rows (plain_is rows refl) vs ts h (token 0 End) [] refl)

few_columns_of : (vs : List (Value table_part)) (ts : List Token) → IsForm strict table_parts vs ts → how_many is_column_value vs ≤ 64
few_columns_of vs ts h = few_columns (ts ++ token 0 End ∷ []) vs (token 0 End ∷ []) (complete strict table_parts (plain_is table_parts refl) vs ts h (token 0 End) [] refl)

insert_sound : (i : InsertStmt) (v : Value insert) (ts : List Token) → SaysInsert i v → IsForm strict insert v ts → are_good insert v ≡ true → is_sound (stmt.Insert i) ≡ true
insert_sound i (insert_word, (into, (table, (cols, (values, vs))))) ts h f g =
    let k = and_right (are_good (May (key word.Into)) into) _ g in
    let l = and_right (are_good (May column_list) cols) _ k in
    both (nat_le (length i.rows) 1000) (list_all (list_all is_entry) i.rows)
    (le-leb (length i.rows) 1000 (rw (as_many SaysRow i.rows vs h.2) (few_rows_of vs _ f.4.4.4.4.4)))
    (each_sound SaysRow (are_good row) (list_all is_entry) row_sound i.rows vs h.2 l)

sum_sound : (s : Sum) (v : Value aggregate) → SaysSum s v → are_good aggregate v ≡ true → is_sum s ≡ true
sum_sound CountAll v h g = refl
sum_sound (SumOf e) (Left v) h g = absurd h
sum_sound (SumOf e) (Right (first_word, (left, (t, right)))) h g = value_sound e t h (and_left (is_good true false t) true g)

sums_sound : (i : Items) (vs : List (Value aggregate)) → SaysSums i vs → list_all (are_good aggregate) vs ≡ true → are_items i ≡ true
sums_sound items.Star vs h g = absurd h
sums_sound (items.Exprs es) vs h g = absurd h
sums_sound (items.Sums ss) vs h g = each_sound SaysSum (are_good aggregate) is_sum sum_sound ss vs h g

shown_sound : (i : Items) (v : Value shown) → SaysShown i v → are_good shown v ≡ true → are_items i ≡ true
shown_sound items.Star v h g = refl
shown_sound (items.Exprs es) (Left v) h g = absurd h
shown_sound (items.Exprs es) (Right vs) h g = each_sound SaysExpr (is_good true false) is_value_expr value_sound es vs h g
shown_sound (items.Sums ss) (Left v) h g = absurd h
shown_sound (items.Sums ss) (Right v) h g = absurd h

select_sums_sound : (s : SelectStmt) (v : Value select_sums) → SaysSelectSums s v → are_good select_sums v ≡ true → is_sound (stmt.Select s) ≡ true
select_sums_sound s (sums, (first_word, (table, filter))) h g =
    let a = and_left (list_all (are_good aggregate) sums) _ g in
    let b = and_right (list_all (are_good aggregate) sums) _ g in
    both (are_items s.items) (is_filter s.filter) (sums_sound s.items sums h.0 a) (filter_sound s.filter filter h.1.1 (and_right true _ (and_right true _ b)))

select_rows_sound : (s : SelectStmt) (v : Value select_rows) → SaysSelectRows s v → are_good select_rows v ≡ true → is_sound (stmt.Select s) ≡ true
select_rows_sound s (items, ((first_word, (table, filter)), order)) h g =
    let a = and_left (are_good shown items) _ g in
    let b = and_left (are_good (May where_truth) filter) _ (and_right (are_good shown items) _ g) in
    both (are_items s.items) (is_filter s.filter) (shown_sound s.items items h.0 a) (filter_sound s.filter filter h.1.1 b)

set_sound : (i : SetItem) (v : Value setting) → SaysSetting i v → are_good setting v ≡ true → is_value_expr i.to ≡ true
set_sound i (name, (equal, t)) h g = value_sound i.to t h.1 (and_right true _ (and_right true _ g))

update_sound : (u : UpdateStmt) (v : Value update) → SaysUpdate u v → are_good update v ≡ true → is_sound (stmt.Update u) ≡ true
update_sound u (first_word, (table, (set, (sets, filter)))) h g =
    let k = and_right true _ (and_right true _ (and_right true _ g)) in
    both (list_all (λ i. is_value_expr i.to) u.sets) (is_filter u.filter)
    (each_sound SaysSetting (are_good setting) (λ i. is_value_expr i.to) set_sound u.sets sets h.1 (and_left (list_all (are_good setting) sets) _ k))
    (filter_sound u.filter filter h.2 (and_right (list_all (are_good setting) sets) _ k))

delete_sound : (d : DeleteStmt) (v : Value delete) → SaysDelete d v → are_good delete v ≡ true → is_sound (stmt.Delete d) ≡ true
delete_sound d (delete_word, (from, (table, filter))) h g = filter_sound d.filter filter h.1 (and_right (are_good (May (key word.From)) from) _ g)

create_table_sound : (s : Stmt) (v : Value create_table) (ts : List Token) → SaysCreateTable s v → IsForm strict create_table v ts → is_sound s ≡ true
create_table_sound (stmt.CreateTable name cols) (first_word, (table, (left, (vs, right)))) ts h f =
    let parts = h.1 in
    let few : length (written parts) ≤ 64 = rw (written_columns parts vs h.2) (few_columns_of vs _ f.4.4.4.3) in
    rw h.3 (columns_are_good parts few)
create_table_sound _ v ts h f = absurd h

use_sound : (s : Stmt) (v : Value use_database) → SaysUse s v → is_sound s ≡ true
use_sound (stmt.UseDb name) v h = refl
use_sound _ v h = absurd h

create_snap_sound : (s : Stmt) (v : Value create_snap) → SaysCreateSnap s v → is_sound s ≡ true
create_snap_sound (stmt.CreateSnap snap files of) v h = refl
create_snap_sound _ v h = absurd h

drop_table_sound : (s : Stmt) (v : Value drop_table) → SaysDropTable s v → is_sound s ≡ true
drop_table_sound (stmt.DropTable name) v h = refl
drop_table_sound _ v h = absurd h

drop_database_sound : (s : Stmt) (v : Value drop_database) → SaysDropDatabase s v → is_sound s ≡ true
drop_database_sound (stmt.DropDb name) v h = refl
drop_database_sound _ v h = absurd h

begin_sound : (s : Stmt) (v : Value begin_transaction) → SaysBegin s v → is_sound s ≡ true
begin_sound stmt.BeginTran v h = refl
begin_sound _ v h = absurd h

commit_sound : (s : Stmt) (v : Value commit) → SaysCommit s v → is_sound s ≡ true
commit_sound stmt.Commit v h = refl
commit_sound _ v h = absurd h

rollback_sound : (s : Stmt) (v : Value rollback) → SaysRollback s v → is_sound s ≡ true
rollback_sound stmt.Rollback v h = refl
rollback_sound _ v h = absurd h

timeout_sound : (s : Stmt) (v : Value timeout) → SaysTimeout s v → is_sound s ≡ true
timeout_sound stmt.LockTimeoutZero v h = refl
timeout_sound _ v h = absurd h

isolation_sound : (s : Stmt) (v : Value isolation) → SaysIsolation s v → is_sound s ≡ true
isolation_sound (stmt.SetLevel to) v h = refl
isolation_sound _ v h = absurd h

session_sound : (s : Stmt) (v : Value set_session) → SaysSet s v → is_sound s ≡ true
session_sound s (first_word, Left v) h = timeout_sound s v h
session_sound s (first_word, Right v) h = isolation_sound s v h

restore_sound : (s : Stmt) (v : Value restore) → SaysRestore s v → is_sound s ≡ true
restore_sound (stmt.Restore db snap) v h = refl
restore_sound _ v h = absurd h

insertion_sound : (s : Stmt) (v : Value insert) (ts : List Token) → SaysInsertion s v → IsForm strict insert v ts → are_good insert v ≡ true → is_sound s ≡ true
insertion_sound (stmt.Insert i) v ts h f g = insert_sound i v ts h f g
insertion_sound _ v ts h f g = absurd h

updating_sound : (s : Stmt) (v : Value update) (ts : List Token) → SaysUpdating s v → IsForm strict update v ts → are_good update v ≡ true → is_sound s ≡ true
updating_sound (stmt.Update u) v ts h f g = update_sound u v h g
updating_sound _ v ts h f g = absurd h

deletion_sound : (s : Stmt) (v : Value delete) (ts : List Token) → SaysDeletion s v → IsForm strict delete v ts → are_good delete v ≡ true → is_sound s ≡ true
deletion_sound (stmt.Delete d) v ts h f g = delete_sound d v h g
deletion_sound _ v ts h f g = absurd h

selection_sound : (s : Stmt) (v : Value select) (ts : List Token) → SaysSelection s v → IsForm strict select v ts → are_good select v ≡ true → is_sound s ≡ true
selection_sound (stmt.Select s) (first_word, Left v) ts h f g = select_sums_sound s v h (and_right true _ g)
selection_sound (stmt.Select s) (first_word, Right v) ts h f g = select_rows_sound s v h (and_right true _ g)
selection_sound _ v ts h f g = absurd h

create_sound : (s : Stmt) (v : Value create) (ts : List Token) → SaysCreate s v → IsForm strict create v ts → is_sound s ≡ true
create_sound s (first_word, Left v) ts h f = create_table_sound s v _ h f.4
create_sound s (first_word, Right v) ts h f = create_snap_sound s v h

drop_sound : (s : Stmt) (v : Value drop) → SaysDrop s v → is_sound s ≡ true
drop_sound s (first_word, Left v) h = drop_table_sound s v h
drop_sound s (first_word, Right v) h = drop_database_sound s v h

structure_sound : (s : Stmt) (v : Value structure) (ts : List Token) → SaysStructure s v → IsForm strict structure v ts → is_sound s ≡ true
structure_sound s (Left v) ts h f = use_sound s v h
structure_sound s (Right (Left v)) ts h f = create_sound s v ts h f
structure_sound s (Right (Right v)) ts h f = drop_sound s v h

change_sound : (s : Stmt) (v : Value change) (ts : List Token) → SaysChange s v → IsForm strict change v ts → are_good change v ≡ true → is_sound s ≡ true
change_sound s (Left v) ts h f g = insertion_sound s v ts h f g
change_sound s (Right (Left v)) ts h f g = updating_sound s v ts h f g
change_sound s (Right (Right v)) ts h f g = deletion_sound s v ts h f g

turn_sound : (s : Stmt) (v : Value turn) → SaysTurn s v → is_sound s ≡ true
turn_sound s (Left v) h = begin_sound s v h
turn_sound s (Right (Left v)) h = commit_sound s v h
turn_sound s (Right (Right (Left v))) h = rollback_sound s v h
turn_sound s (Right (Right (Right (Left v)))) h = session_sound s v h
turn_sound s (Right (Right (Right (Right v)))) h = restore_sound s v h

-- a statement of the grammar is a sound one
pub statement_sound : (s : Stmt) (v : Value statement) (ts : List Token) → SaysStatement s v → IsForm strict statement v ts → are_printed ts ≡ true → is_sound s ≡ true
statement_sound s (Left v) ts h f printed = selection_sound s v ts h f (good_form select v ts f printed)
statement_sound s (Right (Left v)) ts h f printed = structure_sound s v ts h f
statement_sound s (Right (Right (Left v))) ts h f printed = change_sound s v ts h f (good_form change v ts f printed)
statement_sound s (Right (Right (Right v))) ts h f printed = turn_sound s v h

-- so are all statements of a batch
pub batch_sound : (ss : List Stmt) (vs : List (Value ended)) (ts : List Token) → SayEach SaysEnded ss vs → AreMany (IsForm strict ended) vs ts → are_printed ts ≡ true → list_all is_sound ss ≡ true
batch_sound [] [] ts h f printed = refl
batch_sound [] (v ∷ vs) ts h f printed = absurd h
batch_sound (s ∷ ss) [] ts h f printed = absurd h
batch_sound (s ∷ ss) ((v, semicolons) ∷ vs) ts h (us, ws, split, (front, ends, inner, a, b), more) printed =
    let p = printed_parts ts us ws split printed in
    let q = printed_parts us front ends inner (and_left (are_printed us) (are_printed ws) p) in
    both (is_sound s) (list_all is_sound ss) (statement_sound s v front h.0 a (and_left (are_printed front) (are_printed ends) q)) (batch_sound ss vs ws h.1 more (and_right (are_printed us) (are_printed ws) p))
