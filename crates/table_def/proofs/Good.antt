-- Columns that parts define are a definition that isn't a bad one.
use Rattle.std.proofs.Common.{◌↔◌, ◌≡◌, ℕ, zero, suc, ◌+◌, ◌<◌, ◌≤◌, Bool, true, false, cond, not, List, [], ◌∷◌, length, get_or, map, refl, sym, ap, ◌∙◌, arith, add_comm}
use Rattle.std.specs.Prelude.{Result, Ok, Err, IfOk, pos, negsuc, filter, ◌==◌, ◌||◌, nat_le}
use Rattle.std.specs.List.{list_all, range_with_len}
use Rattle.std.specs.Str.{bytes_eq}
use Rattle.std.proofs.lemmas.List.{length-map}
use Rattle.std.proofs.lemmas.List.Folds.{list_any_at}
use Rattle.std.proofs.lemmas.Bool.{and_from, and_parts, or_parts, not-false, le-leb, eq-eqb, false_from_ne_true, both_ways, false≢true, true_from_ne_false, cond-true, cond-false}
use Rattle.std.proofs.lemmas.Bool.Decides.{nat_tests}
use Rattle.page_base.specs.declared.column.Column.{Column}
use Rattle.plain_model.specs.Sound.{are_distinct, are_columns, is_definition, is_column, is_type, has_place}
use Rattle.table_def.specs.declared.parts.ColumnPart.{ColumnPart}
use Rattle.table_def.specs.declared.parts.TablePart.{TablePart}
use Rattle.table_def.specs.declared.parts.WrittenType.{WrittenType}
use Rattle.table_def.specs.declared.parts.WrittenType.TheVariants as types
use Rattle.table_def.specs.Parts.{written, names_in, is_among}
use Rattle.table_def.specs.Kinds.{has_length, kind_of}
use Rattle.table_def.specs.Keys.{place_in, key_of, lacks_one_key}
use Rattle.table_def.specs.Faults.{has_bad_length, has_unknown, is_bad_key, are_bad_columns, is_bad, has_wrong_size, has_key_twice, has_null_key, has_name_twice, has_contradiction, is_bad_length}
use Rattle.table_def.specs.Defined.{column_of, columns_of}
use Rattle.table_def.proofs.Counting.{hits, length-filter, hits-map, hits_same, hits_once, hits_of_key}
use Rattle.table_def.proofs.Places.{has_place_if_among, place_is}

names_stay : (key : List (List ℕ)) (written : List ColumnPart) → map (λ c. c.name) (map (column_of key) written) ≡ names_in written
names_stay key [] = refl
names_stay key (c ∷ cs) = ap (λ (names : List (List ℕ)). c.name ∷ names) (names_stay key cs)

type_fits : (kind : WrittenType) → has_length kind ≡ true → is_type (kind_of kind) ≡ true
type_fits types.Int fits = refl
type_fits types.Bigint fits = refl
type_fits (types.Varchar (pos n)) fits = fits
type_fits (types.Varchar (negsuc n)) fits = cc

-- a column of the key may not be NULL
key_not_null : (declared : Bool) (place : ℕ) → (not (not (declared || nat_le 1 place)) || place == 0) ≡ true
key_not_null true place = refl
key_not_null false zero = refl
key_not_null false (suc place) = grind (arith, nat_tests)

each_is_column : (key : List (List ℕ)) (written : List ColumnPart) → has_bad_length written ≡ false → list_all is_column (map (column_of key) written) ≡ true
each_is_column key [] none = refl
each_is_column key (c ∷ cs) none =
    let parts = or_parts (is_bad_length c) (has_bad_length cs) none in
    and_from _ _ (and_from _ _ (type_fits c.kind (not-false _ parts.0)) (key_not_null _ (place_in key c.name))) (each_is_column key cs parts.1)

-- how many columns have a place that passes is how many of their names pass
places_counted : (key : List (List ℕ)) (q : ℕ → Bool) (r : List ℕ → Bool) → ((n : List ℕ) → q (place_in key n) ≡ r n) → (written : List ColumnPart)
    → length (filter (λ c. q c.key) (map (column_of key) written)) ≡ hits r (names_in written)
places_counted key q r alike written =
    length-filter (λ (c : Column). q c.key) (map (column_of key) written)
    ∙ hits-map (λ (c : Column). q c.key) (column_of key) written
    ∙ hits_same (λ (c : ColumnPart). q (place_in key c.name)) (λ (c : ColumnPart). r c.name) (λ c. alike c.name) written
    ∙ sym (hits-map r (λ (c : ColumnPart). c.name) written)

-- what holds at each number of a range
all_in_range : (q : ℕ → Bool) (a n : ℕ) → ((i : ℕ) → i < n → q (a + i) ≡ true) → list_all q (range_with_len a n) ≡ true
all_in_range q a zero each = refl
all_in_range q a (suc n) each =
    let first : q a ≡ true = ap q (omega arith) ∙ each 0 (omega arith) in
    let later : (i : ℕ) → i < n → q (a + 1 + i) ≡ true = λ i within. ap q (omega arith) ∙ each (i + 1) (omega arith) in
    and_from _ _ first (all_in_range q (a + 1) n later)

-- each name of the key is that of a column
known_at : (key names : List (List ℕ)) (i : ℕ) → has_unknown key names ≡ false → i < length key → is_among names (get_or key i []) ≡ true
known_at key names i none within = not-false _ (false_from_ne_true _ (λ bad. both_ways _ none (list_any_at (λ name. not (is_among names name)) key i [] within bad)))

-- one column has each place
one_has_place : (key : List (List ℕ)) (written : List ColumnPart) (i : ℕ) → are_distinct key ≡ true → are_distinct (names_in written) ≡ true → has_unknown key (names_in written) ≡ false → i < length key
    → has_place (map (column_of key) written) (1 + i) ≡ true
one_has_place key written i dk dn known within =
    let counted = places_counted key (λ place. place == 1 + i) (bytes_eq (get_or key i [])) (λ n. ap (λ (place : ℕ). place_in key n == place) (add_comm 1 i) ∙ place_is key i n dk within) written in
    eq-eqb _ 1 (counted ∙ hits_once (get_or key i []) (names_in written) dn (known_at key (names_in written) i known within))

pub is_good : (key : List (List ℕ)) (written : List ColumnPart) → length written ≤ 64 → is_bad_key key written ≡ false → are_bad_columns written ≡ false → is_definition (map (column_of key) written) ≡ true
is_good key written few good_key good_columns =
    let in_key = or_parts (has_wrong_size key) _ good_key in
    let behind = or_parts (has_key_twice key) _ in_key.1 in
    let known = (or_parts (has_unknown key (names_in written)) (has_null_key key written) behind.1).0 in
    let in_columns = or_parts (has_name_twice written) _ good_columns in
    let long = (or_parts (has_contradiction written) (has_bad_length written) in_columns.1).1 in
    let dk : are_distinct key ≡ true = not-false _ behind.0 in
    let dn : are_distinct (names_in written) ≡ true = not-false _ in_columns.0 in
    let size = and_parts (nat_le 1 (length key)) (nat_le (length key) 16) (not-false _ in_key.0) in
    let size_is : length (filter (λ c. nat_le 1 c.key) (map (column_of key) written)) ≡ length key =
    places_counted key (nat_le 1) (is_among key) (has_place_if_among key) written ∙ hits_of_key key (names_in written) dk dn known in
    let short : nat_le (length (map (column_of key) written)) 64 ≡ true = le-leb _ 64 (rw length-map few) in
    and_from _ _ short (and_from _ _ (ap are_distinct (names_stay key written) ∙ dn) (and_from _ _ (each_is_column key written long)
    (and_from _ _ (ap (nat_le 1) size_is ∙ size.0) (and_from _ _ (ap (λ (n : ℕ). nat_le n 16) size_is ∙ size.1)
    (ap (λ (n : ℕ). list_all (has_place (map (column_of key) written)) (range_with_len 1 n)) size_is
    ∙ all_in_range (has_place (map (column_of key) written)) 1 (length key) (λ i within. one_has_place key written i dk dn known within))))))

-- a definition is one of some columns
are_some : (cols : List Column) → is_definition cols ≡ true → are_columns cols ≡ true
are_some [] good = refl
are_some (c ∷ cs) good = good

-- what parts define is none, or a good definition
by_cases : (bad : Bool) (parts : List TablePart) → length (written parts) ≤ 64 → is_bad parts ≡ bad → are_columns (cond bad [] (map (column_of (key_of parts)) (written parts))) ≡ true
by_cases true parts few is = refl
by_cases false parts few is =
    let behind = or_parts (lacks_one_key parts) _ is in
    let good = or_parts (is_bad_key (key_of parts) (written parts)) (are_bad_columns (written parts)) behind.1 in
    are_some (map (column_of (key_of parts)) (written parts)) (is_good (key_of parts) (written parts) few good.0 good.1)

pub columns_are_good : (parts : List TablePart) → length (written parts) ≤ 64 → are_columns (columns_of parts) ≡ true
columns_are_good parts few = by_cases (is_bad parts) parts few refl

-- the same of a result that may be want of memory
pub good_result : {E : Type 0} (parts : List TablePart) (r : Result (List Column) E) → length (written parts) ≤ 64 → is_bad parts ≡ false
    → IfOk r (λ cols. cols ≡ map (column_of (key_of parts)) (written parts)) → IfOk r (λ cols. are_columns cols ≡ true)
good_result parts (Ok cols) few good is = ap are_columns is ∙ by_cases false parts few good
good_result parts (Err e) few good is = tt

-- a good definition has columns
some_columns : (parts : List TablePart) → is_bad parts ≡ false → map (column_of (key_of parts)) (written parts) ≡ [] → ⊥
some_columns parts fine none =
    let behind = or_parts (lacks_one_key parts) _ fine in
    let good = or_parts (is_bad_key (key_of parts) (written parts)) (are_bad_columns (written parts)) behind.1 in
    let empty : length (written parts) ≡ 0 = sym (length-map (written parts) (column_of (key_of parts))) ∙ ap length none in
    let defined = is_good (key_of parts) (written parts) (omega (arith, empty)) good.0 good.1 in
    false≢true (sym (ap is_definition none) ∙ defined)

-- parts define no columns where the definition is a bad one, and only there
pub none_where_bad : (parts : List TablePart) → (columns_of parts ≡ []) ↔ (is_bad parts ≡ true)
none_where_bad parts = (
  λ none. true_from_ne_false _ (λ fine. some_columns parts fine (sym (cond-false (is_bad parts) [] (map (column_of (key_of parts)) (written parts)) fine) ∙ none)),
  λ bad. cond-true (is_bad parts) [] (map (column_of (key_of parts)) (written parts)) bad,
)
