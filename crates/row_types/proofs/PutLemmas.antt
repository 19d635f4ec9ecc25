-- What statements put fits the columns of their table, and is within the limits.
use Rattle.std.proofs.Common.{◌≡◌, ℕ, Bool, true, false, cond, List, [], ◌∷◌, ◌++◌, map, length, refl, ◌≤◌, arith, All}
use Rattle.std.specs.Prelude.{Option, Some, None, option_map, nat_lt, ⊤}
use Rattle.std.specs.List.{AllByRecursion}
use Rattle.std.specs.declared.result.Result.{Result}
use Rattle.std.specs.declared.result.Result.TheVariants as result
use Rattle.std.proofs.lemmas.List.Elements.{All-from_recursion, recursion_from_All}
use Rattle.std.proofs.lemmas.Bool.Decides.{nat_tests}
use Rattle.page_base.specs.declared.column.Column.{Column}
use Rattle.page_base.specs.declared.value.Value.{Value}
use Rattle.page_base.specs.declared.value.Value.TheVariants.{Null, Int, Big, Text}
use Rattle.plain_model.specs.declared.reply.Message.{Message}
use Rattle.plain_model.specs.declared.stmt.Stmt.TheVariants.{Insert, Update, Delete}
use Rattle.plain_model.specs.Changing.{deleted_row}
use Rattle.plain_model.specs.Messages.{plain}
use Rattle.plain_model.specs.Outcomes.{taken_from}
use Rattle.plain_model.specs.Shapes.{insert_fault, update_fault}
use Rattle.plain_model.specs.Sound.{is_definition, is_sound}
use Rattle.plain_model.specs.Statements.{shape_over, changes_of, data_over}
use Rattle.plain_model.specs.Storing.{row_fault, key_fault, lacks, overflows, some_cell}
use Rattle.plain_model.specs.Tables.{Table, Change, Put, Cut, key_of, rows_of}
use Rattle.plain_model.specs.declared.stmt.Stmt.{Stmt}
use Rattle.plain_model.specs.declared.reply.TheConstants.Message.{KEY_TOO_LONG, NULL_VALUE, ROW_TOO_LONG, TEXT_TOO_LONG}
use Rattle.plain_model.specs.Sizes.{size_of_row, size_of_values, size_of_value}
use Rattle.row_fmt.specs.Rows.{FitsColumns, row_bytes, InRange, IsRowOf}
use Rattle.row_fmt.specs.Keys.{key_bytes}
use Rattle.row_types.specs.Puts.{Puts}
use Rattle.row_types.specs.Fitting.{IsFitting, PutsWhatFits, PutsWhatIsHeld}
use Rattle.row_types.specs.Limits.{KeepsLimits, PutsWhatIsSmall}
use Rattle.row_types.proofs.RowLemmas.{none_first, row_fits, AreKept}
use Rattle.row_types.proofs.TakingLemmas.{TakesAll, or_none}
use Rattle.row_types.proofs.KeyLemmas.{key_same_size}
use Rattle.row_types.proofs.SizeLemmas.{row_sized, key_sized, definition_places}
use Rattle.row_types.proofs.InsertLemmas.{IsNew, insert_takes}
use Rattle.row_types.proofs.UpdateLemmas.{IsChanged, update_takes, HoldsOfHeld}
use Rattle.row_types.proofs.TypeLemmas.{IsHeld}

-- none of a choice is none
plain_none : (o : Option ℕ) → option_map plain o ≡ None → o ≡ None
plain_none None e = refl
plain_none (Some n) e = absurd (cc)

-- what is taken is put
rows_put : (P Q : List Value → Type 0) (table : List ℕ) (rows : List (List Value)) → ((row : List Value) → P row → Q row) → AllByRecursion P rows → Puts Q (map (Put table) rows)
rows_put P Q table [] each h = tt
rows_put P Q table (row ∷ rows) each h = (each row h.0, rows_put P Q table rows each h.1)

taken_put : (P Q : List Value → Type 0) (table : List ℕ) (r : Result (List (List Value)) Message) → ((row : List Value) → P row → Q row) → TakesAll P r → Puts Q (changes_of (Put table) r).0
taken_put P Q table (result.Ok rows) each h = rows_put P Q table rows each h
taken_put P Q table (result.Err m) each h = tt

-- what is cut puts nothing
cut_puts : (Q : List Value → Type 0) (table : List ℕ) (r : Result (List (List Value)) Message) → Puts Q (changes_of (Cut table) r).0
cut_puts Q table (result.Ok keys) = none keys
  where
    none : (keys : List (List Value)) → Puts Q (map (Cut table) keys)
    none [] = tt
    none (key ∷ keys) = none keys
cut_puts Q table (result.Err m) = tt

-- what holds of each new row, and of each changed one, holds of each row that is put
statement_puts : (R : Value → Type 0) (P Q : List Value → Type 0) (stmt : Stmt) (t : Table) → HoldsOfHeld R → is_sound stmt ≡ true → IsFitting t → AllByRecursion (AllByRecursion R) (rows_of t) → AllByRecursion P (rows_of t) → shape_over stmt (Some t) ≡ None
    → ((row : List Value) → IsNew t.cols row → Q row) → ((row : List Value) → IsChanged R P t.cols row → Q row) → Puts Q (data_over stmt t).0
statement_puts R P Q (Insert i) t held sound fits each were shape of_new of_changed =
    taken_put (IsNew t.cols) Q i.table _ of_new (insert_takes i t sound fits.definition (plain_none (insert_fault i t.cols) shape))
statement_puts R P Q (Update u) t held sound fits each were shape of_new of_changed =
    taken_put (IsChanged R P t.cols) Q u.table _ of_changed (update_takes R held P u t sound fits each were (plain_none (update_fault u t.cols) shape))
statement_puts R P Q (Delete d) t held sound fits each were shape of_new of_changed = cut_puts Q d.table (taken_from 1 (map (deleted_row d.filter t.cols) (rows_of t)))
statement_puts R P Q stmt t held sound fits each were shape of_new of_changed = tt

-- the same, where nothing is said of the values that were there
abbrev IsAny : Value → Type 0
IsAny v = ⊤

any_row : (row : List Value) → AllByRecursion IsAny row
any_row [] = tt
any_row (v ∷ row) = (tt, any_row row)

any_rows : (rows : List (List Value)) → AllByRecursion (AllByRecursion IsAny) rows
any_rows [] = tt
any_rows (row ∷ rows) = (any_row row, any_rows rows)

rows_are_put : (P Q : List Value → Type 0) (stmt : Stmt) (t : Table) → is_sound stmt ≡ true → IsFitting t → All P (rows_of t) → shape_over stmt (Some t) ≡ None
    → ((row : List Value) → IsNew t.cols row → Q row) → ((row : List Value) → IsChanged IsAny P t.cols row → Q row) → Puts Q (data_over stmt t).0
rows_are_put P Q stmt t sound fits were shape of_new of_changed =
    statement_puts IsAny P Q stmt t (λ v h. tt) sound fits (any_rows (rows_of t)) (recursion_from_All P (rows_of t) were) shape of_new of_changed

-- ---- the columns

-- a new row that is taken is right by itself
new_right : (cols : List Column) (row : List Value) → IsNew cols row → row_fault cols row ≡ None
new_right cols row h = (or_none (row_fault cols row) (key_fault (key_of cols row)) h.1).0

-- what a sound statement that suits its table puts fits the table's columns
pub puts_what_fits : PutsWhatFits
puts_what_fits stmt t sound fits shape =
    rows_are_put (FitsColumns t.cols) (FitsColumns t.cols) stmt t sound fits fits.rows shape
    (λ row h. row_fits IsHeld t.cols row h.0 (new_right t.cols row h)) (λ row h. row_fits IsAny t.cols row h.kept h.right)

-- ---- the limits

row_small : (cols : List Column) (row : List Value) → row_fault cols row ≡ None → length (row_bytes row) ≤ 8060
row_small cols row e =
    let size : ℕ = size_of_row row in
    let there = none_first (some_cell lacks cols row) NULL_VALUE ((some_cell overflows cols row, TEXT_TOO_LONG) ∷ (nat_lt 8060 size, ROW_TOO_LONG) ∷ []) e in
    let short = none_first (some_cell overflows cols row) TEXT_TOO_LONG ((nat_lt 8060 size, ROW_TOO_LONG) ∷ []) there.1 in
    within (none_first (nat_lt 8060 size) ROW_TOO_LONG [] short.1).0
  where
    within : nat_lt 8060 (size_of_row row) ≡ false → length (row_bytes row) ≤ 8060
    within h = let sized = row_sized row in grind (arith, nat_tests)

key_small : (cols : List Column) (row : List Value) → is_definition cols ≡ true → key_fault (key_of cols row) ≡ None → length (key_bytes cols row) ≤ 900
key_small cols row definition e = let sized = key_sized cols row (definition_places cols definition) in within (size_of_values (key_of cols row)) sized (nat_lt 900 (size_of_values (key_of cols row))) refl e
  where
    within : (size : ℕ) → length (key_bytes cols row) ≡ size → (b : Bool) → nat_lt 900 size ≡ b → cond {A = Option ℕ} b (Some KEY_TOO_LONG) None ≡ None → length (key_bytes cols row) ≤ 900
    within size sized true is e = absurd (cc)
    within size sized false is e = grind (arith, nat_tests)

new_small : (cols : List Column) (row : List Value) → is_definition cols ≡ true → IsNew cols row → KeepsLimits cols row
new_small cols row definition h = record {
  bytes = row_small cols row (new_right cols row h);
  key = key_small cols row definition (or_none (row_fault cols row) (key_fault (key_of cols row)) h.1).1;
}

changed_small : (cols : List Column) (row : List Value) → IsChanged IsAny (KeepsLimits cols) cols row → KeepsLimits cols row
changed_small cols row h = let was = h.was.key in record {
  bytes = row_small cols row h.right;
  key = omega (arith, key_same_size cols h.old row h.key);
}

-- what a sound statement that suits its table puts is within the limits
pub puts_what_is_small : PutsWhatIsSmall
puts_what_is_small stmt t sound fits small shape =
    rows_are_put (KeepsLimits t.cols) (KeepsLimits t.cols) stmt t sound fits small shape
    (λ row h. new_small t.cols row fits.definition h) (changed_small t.cols)

-- ---- the range

-- in a row within the limits two bytes can tell the length of each text
in_range : (cols : List Column) (row : List Value) → AreKept IsHeld cols row → size_of_values row ≤ 8060 → AllByRecursion InRange row
in_range [] [] h small = tt
in_range [] (v ∷ row) h small = absurd h
in_range (c ∷ cols) [] h small = absurd h
in_range (c ∷ cols) (v ∷ row) h small =
    let first : size_of_value v ≤ 8060 = omega arith in
    (of_value v h.0.1 first, in_range cols row h.1 (omega arith))
  where
    of_value : (v : Value) → IsHeld v → size_of_value v ≤ 8060 → InRange v
    of_value Null h small = tt
    of_value (Int n) h small = h
    of_value (Big n) h small = h
    of_value (Text bytes) h small = omega arith

range_held : (v : Value) → InRange v → IsHeld v
range_held Null h = tt
range_held (Int n) h = h
range_held (Big n) h = h
range_held (Text bytes) h = tt

row_held : (row : List Value) → AllByRecursion InRange row → AllByRecursion IsHeld row
row_held [] h = tt
row_held (v ∷ row) h = (range_held v h.0, row_held row h.1)

rows_held : (cols : List Column) (rows : List (List Value)) → AllByRecursion (IsRowOf cols) rows → AllByRecursion (AllByRecursion IsHeld) rows
rows_held cols [] h = tt
rows_held cols (row ∷ rows) h = (row_held row h.0.range, rows_held cols rows h.1)

row_of : (cols : List Column) (row : List Value) → AreKept IsHeld cols row → row_fault cols row ≡ None → IsRowOf cols row
row_of cols row h right = record {
  fits = row_fits IsHeld cols row h right;
  range = in_range cols row h (omega (arith, row_small cols row right, row_sized row));
}

-- what a sound statement that suits its table puts is a row that a program can hold
pub puts_what_is_held : PutsWhatIsHeld
puts_what_is_held stmt t sound fits rows shape =
    let were = recursion_from_All (IsRowOf t.cols) (rows_of t) rows in
    statement_puts IsHeld (IsRowOf t.cols) (IsRowOf t.cols) stmt t (λ v h. h) sound fits (rows_held t.cols (rows_of t) were) were shape
    (λ row h. row_of t.cols row h.0 (new_right t.cols row h)) (λ row h. row_of t.cols row h.kept h.right)

-- ---- callers that have the rows as a list

-- what holds of each row that is put holds of all of these, whatever changes come behind
pub all_put : (Q : List Value → Type 0) (table : List ℕ) (rows : List (List Value)) (later : List Change) → Puts Q (map (Put table) rows ++ later) → All Q rows
all_put Q table rows later h = All-from_recursion Q rows (each rows h)
  where
    each : (rows : List (List Value)) → Puts Q (map (Put table) rows ++ later) → AllByRecursion Q rows
    each [] h = tt
    each (row ∷ rows) h = (h.0, each rows h.1)
