-- What a SELECT answers asks for no cause, and changes nothing.
use Rattle.std.proofs.Common.{◌≡◌, ℕ, Bool, true, false, List, [], ◌∷◌, map, refl, subst, sym}
use Rattle.std.specs.Prelude.{Option, Some, None, option_map, IfOk, ◌||◌}
use Rattle.std.specs.declared.result.Result.{Result}
use Rattle.std.specs.declared.result.Result.TheVariants as result
use Rattle.std.specs.List.{list_any}
use Rattle.plain_model.specs.Names.{is_unknown}
use Rattle.page_base.specs.declared.column.Column.{Column}
use Rattle.page_base.specs.declared.value.Value.{Value}
use Rattle.plain_model.specs.declared.expr.Expr.{Expr}
use Rattle.plain_model.specs.declared.reply.Message.{Message}
use Rattle.plain_model.specs.declared.reply.Reply.{Reply}
use Rattle.plain_model.specs.declared.reply.Reply.TheVariants.{Ok, Count, Rows, Msg}
use Rattle.plain_model.specs.declared.stmt.Items.{Items}
use Rattle.plain_model.specs.declared.stmt.Items.TheVariants.{Star, Exprs, Sums}
use Rattle.plain_model.specs.declared.stmt.OrderItem.{OrderItem}
use Rattle.plain_model.specs.declared.stmt.SelectStmt.{SelectStmt}
use Rattle.plain_model.specs.declared.stmt.Stmt.{Stmt}
use Rattle.plain_model.specs.declared.stmt.Stmt.TheVariants.{Select}
use Rattle.plain_model.specs.declared.stmt.Sum.{Sum}
use Rattle.plain_model.specs.declared.reply.TheConstants.Message.{NO_COLUMN, NO_TABLE, TYPE_CLASH}
use Rattle.plain_model.specs.Messages.{plain, first_that}
use Rattle.plain_model.specs.Outcomes.{taken_from, all_of, or_overflow, keeps}
use Rattle.plain_model.specs.Selecting.{shown, shown_of, selected_row, rows_reply, select_rows}
use Rattle.plain_model.specs.Shapes.{are_lost, are_ill, is_lost_filter, is_ill_filter}
use Rattle.plain_model.specs.Statements.{selected}
use Rattle.plain_model.specs.Tables.{Table, Tables, rows_of}
use Rattle.plain_model.specs.Totals.{argument, summed_row, totals_reply, totals_row, aggregates_from}
use Rattle.early_pages.specs.Shown.{Shown}
use Rattle.early_engine.specs.Causes.{IsNoShortage, IsRoomReply}
use Rattle.early_engine.specs.Seeing.{unless_refused, replied, IsSelect}
use Rattle.early_engine.specs.Stepping.{tables_after}
use Rattle.early_engine.proofs.Mild.{IsHarmless, IsMild, AreMild, other_numbers, mild_number, mild_overflow, mild_behind, mild_rows}

harmless_rows : (cols : List Column) (order : List OrderItem) (taken : Result (List (List Value × List Value)) Message) → AreMild taken → IsHarmless (rows_reply cols order taken)
harmless_rows cols order (result.Ok taken) h = (tt, tt)
harmless_rows cols order (result.Err m) h = h

harmless_row : (values : Option (List Value)) → IsHarmless (totals_row values)
harmless_row None = mild_number
harmless_row (Some values) = (tt, tt)

harmless_totals : (cols : List Column) (sums : List Sum) (taken : Result (List (List Value)) Message) → AreMild taken → IsHarmless (totals_reply cols sums taken)
harmless_totals cols sums (result.Ok taken) h = harmless_row (all_of (aggregates_from cols taken 0 sums))
harmless_totals cols sums (result.Err m) h = h

mild_selected : (items : Items) (filter : Option Expr) (cols : List Column) (row : List Value) → IsMild (selected_row items filter cols row)
mild_selected items filter cols row =
    let taken : Option (List Value × List Value) = option_map (λ values. (row, map shown values)) (shown_of items cols row) in
    mild_behind (keeps cols filter row) (or_overflow taken) (mild_overflow taken)

mild_summed : (sums : List Sum) (filter : Option Expr) (cols : List Column) (row : List Value) → IsMild (summed_row sums filter cols row)
mild_summed sums filter cols row =
    let taken : Option (List Value) = all_of (map (argument cols row) sums) in
    mild_behind (keeps cols filter row) (or_overflow taken) (mild_overflow taken)

harmless_select_rows : (items : Items) (filter : Option Expr) (order : List OrderItem) (t : Table) → IsHarmless (select_rows items filter order t)
harmless_select_rows items filter order t =
    harmless_rows t.cols order (taken_from 1 (map (selected_row items filter t.cols) (rows_of t))) (mild_rows (selected_row items filter t.cols) (mild_selected items filter t.cols) 1 (rows_of t))

harmless_selected : (items : Items) (filter : Option Expr) (order : List OrderItem) (t : Table) → IsHarmless (selected items filter order t)
harmless_selected Star filter order t = harmless_select_rows Star filter order t
harmless_selected (Exprs es) filter order t = harmless_select_rows (Exprs es) filter order t
harmless_selected (Sums ss) filter order t =
    harmless_totals t.cols ss (taken_from 1 (map (summed_row ss filter t.cols) (rows_of t))) (mild_rows (summed_row ss filter t.cols) (mild_summed ss filter t.cols) 1 (rows_of t))

harmless_shape : (lost ill : Bool) (reply : Reply) → IsHarmless reply → IsHarmless (unless_refused (option_map plain (first_that ((lost, NO_COLUMN) ∷ (ill, TYPE_CLASH) ∷ []))) reply)
harmless_shape true ill reply h = other_numbers NO_COLUMN refl refl refl
harmless_shape false true reply h = other_numbers TYPE_CLASH refl refl refl
harmless_shape false false reply h = h

-- what a SELECT answers over a table
pub select_harmless : (s : SelectStmt) (t : Table) → IsHarmless (replied (Select s) (Some t))
select_harmless s t = harmless_shape (are_lost t.cols s.items || (is_lost_filter t.cols s.filter || list_any (λ o. is_unknown t.cols o.col) s.order)) (are_ill t.cols s.items || is_ill_filter t.cols s.filter) (selected s.items s.filter s.order t) (harmless_selected s.items s.filter s.order t)

-- no room is asked for
pub select_room : (v : Shown) (s : SelectStmt) (reply : Reply) → IsNoShortage reply → IsRoomReply v (Select s) reply
select_room v s (Msg m) h = h
select_room v s Ok h = tt
select_room v s (Count n) h = tt
select_room v s (Rows rows) h = tt

-- the tables stay
pub select_stays : (s : SelectStmt) (r : Reply) (t : Tables) → tables_after (Select s) r t ≡ t
select_stays s (Msg m) t = refl
select_stays s Ok t = refl
select_stays s (Count n) t = refl
select_stays s (Rows rs) t = refl

-- what is said of a SELECT and its table is said of the statement that it is
pub as_select : (P : Stmt → List ℕ → Type 0) (stmt : Stmt) (name : List ℕ) (h : IsSelect stmt name) → P (Select h.select) h.select.table → P stmt name
as_select P stmt name h p = subst (λ (n : List ℕ). P stmt n) h.table (subst (λ (x : Stmt). P x h.select.table) (sym h.is) p)

-- a SELECT from no table
pub select_nothing : (stmt : Stmt) (name : List ℕ) → IsSelect stmt name → Msg (plain NO_TABLE) ≡ replied stmt None
select_nothing stmt name h = as_select (λ stmt name. Msg (plain NO_TABLE) ≡ replied stmt None) stmt name h refl

-- what such a statement answers over a table
pub harmless_reply : (stmt : Stmt) (name : List ℕ) → IsSelect stmt name → (t : Table) → IsHarmless (replied stmt (Some t))
harmless_reply stmt name h t = as_select (λ stmt name. IsHarmless (replied stmt (Some t))) stmt name h (select_harmless h.select t)

-- of a result that is there more is known
pub if_ok_more : {X E : Type 0} {P Q : X → Type 0} (r : Result X E) → IfOk r P → ((x : X) → P x → Q x) → IfOk r Q
if_ok_more (result.Ok x) h more = more x h
if_ok_more (result.Err e) h more = tt
