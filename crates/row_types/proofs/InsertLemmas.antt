-- What an INSERT puts: rows as the columns keep them, which nothing refuses.
use Rattle.std.proofs.Common.{◌≡◌, ℕ, ◌+◌, Bool, true, false, cond, not, ◌||◌, List, [], ◌∷◌, map, length, refl}
use Rattle.std.specs.Prelude.{Option, Some, None, option_and_then, nat_le}
use Rattle.std.specs.FinMap as finite
use Rattle.std.specs.List.{AllByRecursion, list_all, list_any}
use Rattle.std.specs.Str.{bytes_eq}
use Rattle.std.proofs.lemmas.Bool.{and_parts, or_parts}
use Rattle.page_base.specs.declared.column.Column.{Column}
use Rattle.page_base.specs.declared.value.Value.{Value}
use Rattle.plain_model.specs.declared.expr.Expr.{Expr}
use Rattle.plain_model.specs.declared.stmt.InsertStmt.{InsertStmt}
use Rattle.plain_model.specs.declared.stmt.Stmt.TheVariants.{Insert}
use Rattle.plain_model.specs.declared.reply.TheConstants.Message.{NO_COLUMN, TYPE_CLASH}
use Rattle.plain_model.specs.Inserting.{target_names, given_for, new_row, key_clash, fault_among, inserted_row, with_taken, inserted_from}
use Rattle.plain_model.specs.Names.{is_unknown}
use Rattle.plain_model.specs.Shape.{each_leaf, is_no_column}
use Rattle.plain_model.specs.Shapes.{type_in, may_stand, may_all_stand, insert_fault}
use Rattle.plain_model.specs.Sound.{is_value_expr, is_entry, are_distinct, is_definition, is_sound}
use Rattle.plain_model.specs.Storing.{kept_as, new_row_fault}
use Rattle.plain_model.specs.Tables.{Table, key_of}
use Rattle.plain_model.specs.Tree.{tree_of}
use Rattle.plain_model.specs.Values.{value_of}
use Rattle.row_types.proofs.TypeLemmas.{Keeps, IsHeld, null_kept}
use Rattle.row_types.proofs.RowLemmas.{AreKept, all_kept, none_first, IsFirst, definition_firsts, not_false}
use Rattle.row_types.proofs.StandLemmas.{same, stand_kept}
use Rattle.row_types.proofs.TakingLemmas.{Takes, TakesAll, after_takes, unless_takes, or_none}

given_kept : (cols : List Column) (c : Column) (names : List (List ℕ)) (exprs : List Expr) (w : Value) → IsFirst cols c → may_all_stand cols names exprs ≡ true → list_all is_entry exprs ≡ true → option_and_then (kept_as c.kind) (given_for names exprs c.name) ≡ Some w → Keeps IsHeld c.kind w
given_kept cols c [] exprs w first may sound given = null_kept c.kind w given
given_kept cols c (n ∷ names) [] w first may sound given = null_kept c.kind w given
given_kept cols c (n ∷ names) (e ∷ exprs) w first may sound given =
    let m = and_parts (may_stand cols n (type_in [] e)) (may_all_stand cols names exprs) may in
    let s = and_parts (is_entry e) (list_all is_entry exprs) sound in
    let value = (and_parts (is_value_expr e) (each_leaf is_no_column (tree_of e)) s.0).0 in
    chosen m.0 value (given_kept cols c names exprs w first m.1 s.1) (bytes_eq n c.name) refl given
  where
    chosen : may_stand cols n (type_in [] e) ≡ true → is_value_expr e ≡ true → (option_and_then (kept_as c.kind) (given_for names exprs c.name) ≡ Some w → Keeps IsHeld c.kind w) → (b : Bool) → bytes_eq n c.name ≡ b → option_and_then (kept_as c.kind) (cond b (value_of [] [] (tree_of e)) (given_for names exprs c.name)) ≡ Some w → Keeps IsHeld c.kind w
    chosen m value later true is given = stand_kept cols c n [] [] e w first (same n c.name is) tt value m given
    chosen m value later false is given = later given

each_given : (all cols : List Column) (names : List (List ℕ)) (exprs : List Expr) → may_all_stand all names exprs ≡ true → list_all is_entry exprs ≡ true → AllByRecursion (IsFirst all) cols → AllByRecursion (λ c. (v : Value) → option_and_then (kept_as c.kind) (given_for names exprs c.name) ≡ Some v → Keeps IsHeld c.kind v) cols
each_given all [] names exprs may sound firsts = tt
each_given all (c ∷ cols) names exprs may sound firsts = ((λ v e. given_kept all c names exprs v firsts.0 may sound e), each_given all cols names exprs may sound firsts.1)

-- a new row is kept by its columns
new_kept : (cols : List Column) (names : List (List ℕ)) (exprs : List Expr) (row : List Value) → AllByRecursion (IsFirst cols) cols → may_all_stand cols names exprs ≡ true → list_all is_entry exprs ≡ true → new_row names cols exprs ≡ Some row → AreKept IsHeld cols row
new_kept cols names exprs row firsts may sound e = all_kept IsHeld _ cols row (each_given cols cols names exprs may sound firsts) e

-- ---- rows in turn

-- a new row that is taken, of those that the columns keep
abbrev pub IsNew : List Column → List Value → Type 0
IsNew cols row = AreKept IsHeld cols row × (new_row_fault cols row ≡ None)

inserted_takes : (cols : List Column) (keys : List (List Value)) (new : Option (List Value)) → ((row : List Value) → new ≡ Some row → AreKept IsHeld cols row) → Takes (IsNew cols) (inserted_row cols keys new)
inserted_takes cols keys None h = tt
inserted_takes cols keys (Some row) h = unless_takes (IsNew cols) row (fault_among cols keys row) (λ none. (h row refl, (or_none (new_row_fault cols row) (key_clash keys (key_of cols row)) none).0))

inserted_all : (cols : List Column) (keys : List (List Value)) (place : ℕ) (news : List (Option (List Value))) → AllByRecursion (λ new. (row : List Value) → new ≡ Some row → AreKept IsHeld cols row) news → TakesAll (IsNew cols) (inserted_from cols keys place news)
inserted_all cols keys place [] h = tt
inserted_all cols keys place (new ∷ news) h =
    after_takes (IsNew cols) place (inserted_row cols keys new) _ (inserted_takes cols keys new h.0) (inserted_all cols (with_taken cols keys (inserted_row cols keys new)) (place + 1) news h.1)

each_new : (cols : List Column) (names : List (List ℕ)) (rows : List (List Expr)) → AllByRecursion (IsFirst cols) cols → list_all (may_all_stand cols names) rows ≡ true → list_all (list_all is_entry) rows ≡ true → AllByRecursion (λ new. (row : List Value) → new ≡ Some row → AreKept IsHeld cols row) (map (new_row names cols) rows)
each_new cols names [] firsts may sound = tt
each_new cols names (exprs ∷ rows) firsts may sound =
    let m = and_parts (may_all_stand cols names exprs) (list_all (may_all_stand cols names) rows) may in
    let s = and_parts (list_all is_entry exprs) (list_all (list_all is_entry) rows) sound in
    ((λ row e. new_kept cols names exprs row firsts m.0 s.0 e), each_new cols names rows firsts m.1 s.1)

-- each row that an INSERT puts is a new one
pub insert_takes : (i : InsertStmt) (t : Table) → is_sound (Insert i) ≡ true → is_definition t.cols ≡ true → insert_fault i t.cols ≡ None → TakesAll (IsNew t.cols) (inserted_from t.cols (finite.keys t.rows) 1 (map (new_row (target_names i.cols t.cols) t.cols) i.rows))
insert_takes i t sound definition fault =
    let names : List (List ℕ) = target_names i.cols t.cols in
    let may : Bool = list_all (may_all_stand t.cols names) i.rows in
    let ill : Bool = not (are_distinct i.cols) || not may in
    let known = none_first (list_any (is_unknown t.cols) i.cols) NO_COLUMN ((ill, TYPE_CLASH) ∷ []) fault in
    let well = or_parts (not (are_distinct i.cols)) (not may) (none_first ill TYPE_CLASH [] known.1).0 in
    let entries = (and_parts (nat_le (length i.rows) 1000) (list_all (list_all is_entry) i.rows) sound).1 in
    inserted_all t.cols (finite.keys t.rows) 1 (map (new_row names t.cols) i.rows)
    (each_new t.cols names i.rows (definition_firsts t.cols definition) (not_false may well.1) entries)
