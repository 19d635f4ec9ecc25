-- What an UPDATE puts: rows as the columns keep them, which nothing refuses, with keys that were there.
use Rattle.std.proofs.Common.{◌≡◌, Bool, true, false, cond, not, ◌||◌, List, [], ◌∷◌, map, refl, sym, ℕ, zero, suc}
use Rattle.std.specs.Prelude.{Option, Some, None, option_and_then, filter, slice_index_or}
use Rattle.std.specs.List.{AllByRecursion, list_all, list_any}
use Rattle.std.specs.Str.{bytes_eq}
use Rattle.std.proofs.lemmas.Bool.{and_parts, or_parts}
use Rattle.std.proofs.lemmas.List.Elements.{recursion_from_All}
use Rattle.page_base.specs.declared.column.Column.{Column}
use Rattle.page_base.specs.declared.value.Value.{Value}
use Rattle.page_base.specs.declared.value.Value.TheVariants.{Null}
use Rattle.plain_model.specs.declared.expr.Expr.{Expr}
use Rattle.plain_model.specs.declared.stmt.SetItem.{SetItem}
use Rattle.plain_model.specs.declared.stmt.UpdateStmt.{UpdateStmt}
use Rattle.plain_model.specs.declared.stmt.Stmt.TheVariants.{Update}
use Rattle.plain_model.specs.declared.reply.TheConstants.Message.{KEY_UPDATE, NO_COLUMN, TYPE_CLASH}
use Rattle.plain_model.specs.Cells.{cell, cell_at, place_of}
use Rattle.plain_model.specs.Changing.{set_to, set_row, if_right, updated_row}
use Rattle.plain_model.specs.Names.{is_unknown}
use Rattle.plain_model.specs.Outcomes.{taken_from, keeps}
use Rattle.plain_model.specs.Shapes.{is_lost, is_lost_filter, is_ill_filter, is_key_name, type_in, may_stand, update_fault}
use Rattle.plain_model.specs.Sound.{is_value_expr, is_filter, are_distinct, is_sound}
use Rattle.plain_model.specs.Storing.{kept_as, row_fault}
use Rattle.plain_model.specs.Tables.{Table, rows_of}
use Rattle.plain_model.specs.Tree.{tree_of}
use Rattle.plain_model.specs.Values.{value_of}
use Rattle.row_fmt.specs.Rows.{FitsColumns}
use Rattle.row_types.specs.Fitting.{IsFitting}
use Rattle.row_types.proofs.TypeLemmas.{Keeps, IsHeld, of_some, stands_kept, cell_stands}
use Rattle.row_types.proofs.RowLemmas.{AreKept, all_kept, none_first, IsFirst, definition_firsts, definition_names, not_false}
use Rattle.row_types.proofs.StandLemmas.{same, stand_kept}
use Rattle.row_types.proofs.TakingLemmas.{Takes, TakesAll, taken_takes, unless_takes, behind_takes}
use Rattle.row_types.proofs.KeyLemmas.{KeepsKey, set_row_keeps}

-- what holds of NULL and of each value of a row holds of the value under any name
cell_holds : (R : Value → Type 0) (cols : List Column) (row : List Value) (name : List ℕ) → R Null → AllByRecursion R row → R (cell cols row name)
cell_holds R cols row name none each = found (place_of cols name)
  where
    at : (row : List Value) → AllByRecursion R row → (n : ℕ) → R (slice_index_or row n Null)
    at [] each n = none
    at (v ∷ row) each zero = each.0
    at (v ∷ row) each (suc n) = at row each.1 n

    found : (o : Option ℕ) → R (cell_at row o)
    found None = none
    found (Some n) = at row each n

-- a property of values that numbers have which their types hold
abbrev pub HoldsOfHeld : (Value → Type 0) → Type 0
HoldsOfHeld R = (v : Value) → IsHeld v → R v

set_kept : (R : Value → Type 0) → HoldsOfHeld R → (cols : List Column) (row : List Value) (sets : List SetItem) (c : Column) (w : Value) → IsFirst cols c → FitsColumns cols row → AllByRecursion R row → list_all (λ i. may_stand cols i.col (type_in cols i.to)) sets ≡ true → list_all (λ i. is_value_expr i.to) sets ≡ true → set_to sets cols row c ≡ Some w → Keeps R c.kind w
set_kept R held cols row [] c w first fits each may sound e =
    of_some (Keeps R c.kind) (cell cols row c.name) w e (stands_kept c (cell cols row c.name) (cell_stands cols row c.name c fits first), cell_holds R cols row c.name (held Null tt) each)
set_kept R held cols row (i ∷ sets) c w first fits each may sound e =
    let m = and_parts (may_stand cols i.col (type_in cols i.to)) (list_all (λ (i : SetItem). may_stand cols i.col (type_in cols i.to)) sets) may in
    let s = and_parts (is_value_expr i.to) (list_all (λ (i : SetItem). is_value_expr i.to) sets) sound in
    chosen m.0 s.0 (set_kept R held cols row sets c w first fits each m.1 s.1) (bytes_eq c.name i.col) refl e
  where
    chosen : may_stand cols i.col (type_in cols i.to) ≡ true → is_value_expr i.to ≡ true → (set_to sets cols row c ≡ Some w → Keeps R c.kind w) → (b : Bool) → bytes_eq c.name i.col ≡ b → cond b (option_and_then (kept_as c.kind) (value_of cols row (tree_of i.to))) (set_to sets cols row c) ≡ Some w → Keeps R c.kind w
    chosen m s later true is e = let kept = stand_kept cols c i.col cols row i.to w first (sym (same c.name i.col is)) fits s m e in (kept.0, held w kept.1)
    chosen m s later false is e = later e

each_set : (R : Value → Type 0) → HoldsOfHeld R → (all cols : List Column) (row : List Value) (sets : List SetItem) → FitsColumns all row → AllByRecursion R row → list_all (λ i. may_stand all i.col (type_in all i.to)) sets ≡ true → list_all (λ i. is_value_expr i.to) sets ≡ true → AllByRecursion (IsFirst all) cols → AllByRecursion (λ c. (v : Value) → set_to sets all row c ≡ Some v → Keeps R c.kind v) cols
each_set R held all [] row sets fits each may sound firsts = tt
each_set R held all (c ∷ cols) row sets fits each may sound firsts = ((λ v e. set_kept R held all row sets c v firsts.0 fits each may sound e), each_set R held all cols row sets fits each may sound firsts.1)

-- a row after the SETs is kept by its columns
set_row_kept : (R : Value → Type 0) → HoldsOfHeld R → (cols : List Column) (sets : List SetItem) (row new : List Value) → AllByRecursion (IsFirst cols) cols → FitsColumns cols row → AllByRecursion R row → list_all (λ i. may_stand cols i.col (type_in cols i.to)) sets ≡ true → list_all (λ i. is_value_expr i.to) sets ≡ true → set_row sets cols row ≡ Some new → AreKept R cols new
set_row_kept R held cols sets row new firsts fits each may sound e = all_kept R _ cols new (each_set R held cols cols row sets fits each may sound firsts) e

-- ---- rows in turn

-- a changed row that is taken: the columns keep it, nothing refuses it, and it has the key of a row of which P holds
pub record IsChanged (R : Value → Type 0) (P : List Value → Type 0) (cols : List Column) (row : List Value) : Type 0 where
  pub kept : AreKept R cols row
  pub right : row_fault cols row ≡ None
  pub old : List Value
  pub was : P old
  pub key : KeepsKey cols old row

right_takes : (R : Value → Type 0) (P : List Value → Type 0) (cols : List Column) (row : List Value) (o : Option (List Value)) → P row → ((new : List Value) → o ≡ Some new → AreKept R cols new × KeepsKey cols row new) → Takes (IsChanged R P cols) (if_right cols o)
right_takes R P cols row None was h = tt
right_takes R P cols row (Some new) was h =
    let made = h new refl in
    unless_takes (IsChanged R P cols) new (row_fault cols new) (λ none. record { kept = made.0; right = none; old = row; was = was; key = made.1 })

-- the SETs that are right for these columns
record AreRight (cols : List Column) (sets : List SetItem) : Type 0 where
  distinct : are_distinct (map (λ c. c.name) cols) ≡ true
  firsts : AllByRecursion (IsFirst cols) cols
  stand : list_all (λ i. may_stand cols i.col (type_in cols i.to)) sets ≡ true
  values : list_all (λ i. is_value_expr i.to) sets ≡ true
  no_key : list_any (λ i. is_key_name cols i.col) sets ≡ false

each_changed : (R : Value → Type 0) → HoldsOfHeld R → (P : List Value → Type 0) (cols : List Column) (sets : List SetItem) (filter : Option Expr) (rows : List (List Value)) → AreRight cols sets → AllByRecursion (FitsColumns cols) rows → AllByRecursion (AllByRecursion R) rows → AllByRecursion P rows → AllByRecursion (Takes (IsChanged R P cols)) (map (updated_row sets filter cols) rows)
each_changed R held P cols sets filter [] right fits each were = tt
each_changed R held P cols sets filter (row ∷ rows) right fits each were = (
  behind_takes (IsChanged R P cols) (keeps cols filter row) _ (right_takes R P cols row (set_row sets cols row) were.0 (λ new e.
      (set_row_kept R held cols sets row new right.firsts fits.0 each.0 right.stand right.values e, set_row_keeps cols sets row new right.distinct right.firsts fits.0 right.no_key e))),
  each_changed R held P cols sets filter rows right fits.1 each.1 were.1,
)

-- each row that an UPDATE puts is a changed one
pub update_takes : (R : Value → Type 0) → HoldsOfHeld R → (P : List Value → Type 0) (u : UpdateStmt) (t : Table) → is_sound (Update u) ≡ true → IsFitting t → AllByRecursion (AllByRecursion R) (rows_of t) → AllByRecursion P (rows_of t) → update_fault u t.cols ≡ None → TakesAll (IsChanged R P t.cols) (taken_from 1 (map (updated_row u.sets u.filter t.cols) (rows_of t)))
update_takes R held P u t sound fits each were fault =
    let may : Bool = list_all (λ (i : SetItem). may_stand t.cols i.col (type_in t.cols i.to)) u.sets in
    let distinct : Bool = are_distinct (map (λ (i : SetItem). i.col) u.sets) in
    let ill_filter : Bool = is_ill_filter t.cols u.filter in
    let ill : Bool = not distinct || (not may || ill_filter) in
    let keys : Bool = list_any (λ (i : SetItem). is_key_name t.cols i.col) u.sets in
    let known = none_first (list_any (λ (i : SetItem). is_unknown t.cols i.col || is_lost t.cols i.to) u.sets || is_lost_filter t.cols u.filter) NO_COLUMN ((keys, KEY_UPDATE) ∷ (ill, TYPE_CLASH) ∷ []) fault in
    let no_key = none_first keys KEY_UPDATE ((ill, TYPE_CLASH) ∷ []) known.1 in
    let well = or_parts (not distinct) (not may || ill_filter) (none_first ill TYPE_CLASH [] no_key.1).0 in
    let stand = not_false may (or_parts (not may) ill_filter well.1).0 in
    let values = (and_parts (list_all (λ (i : SetItem). is_value_expr i.to) u.sets) (is_filter u.filter) sound).0 in
    let right : AreRight t.cols u.sets = record { distinct = definition_names t.cols fits.definition; firsts = definition_firsts t.cols fits.definition; stand = stand; values = values; no_key = no_key.0 } in
    taken_takes (IsChanged R P t.cols) 1 (map (updated_row u.sets u.filter t.cols) (rows_of t))
    (each_changed R held P t.cols u.sets u.filter (rows_of t) right (recursion_from_All (FitsColumns t.cols) (rows_of t) fits.rows) each were)
