-- The sizes of rows and keys are the lengths of their bytes.
use Rattle.std.proofs.Common.{◌≡◌, ℕ, zero, suc, ◌+◌, ◌≤◌, ◌==◌, ◌&&◌, Bool, true, false, cond, List, [], ◌∷◌, length, map, refl, sym, ap, ◌∙◌, arith, filter}
use Rattle.std.specs.Prelude.{nat_le, nat_lt}
use Rattle.std.specs.List.{concat, list_all, range_with_len}
use Rattle.std.proofs.lemmas.Bool.{and_parts}
use Rattle.std.proofs.lemmas.Bool.Decides.{nat_tests}
use Rattle.page_base.specs.declared.column.Column.{Column}
use Rattle.page_base.specs.declared.value.Value.{Value}
use Rattle.page_base.specs.declared.value.Value.TheVariants.{Null, Int, Big, Text}
use Rattle.plain_model.specs.Sizes.{size_of_value, size_of_values, size_of_row}
use Rattle.plain_model.specs.Sound.{are_distinct, is_column, has_place, is_definition}
use Rattle.plain_model.specs.Tables.{key_cell, key_size, key_of}
use Rattle.row_fmt.specs.Keys.{key_bytes}
use Rattle.row_fmt.specs.Rows.{value_field, row_bytes, null_bytes}
use Rattle.row_fmt.proofs.SizeLemmas.{int_size, big_size, text_size, values_size, values_size-cons, row_size, key_sum, key_size_is}

value_sized : (v : Value) → length (concat (value_field v)) ≡ size_of_value v
value_sized Null = refl
value_sized (Int n) = int_size n
value_sized (Big n) = big_size n
value_sized (Text bytes) = text_size bytes

values_sized : (row : List Value) → values_size row ≡ size_of_values row
values_sized [] = refl
values_sized (v ∷ row) = values_size-cons v row ∙ (λ t. value_sized v t + values_sized row t)

-- the bytes of a row
pub row_sized : (row : List Value) → length (row_bytes row) ≡ size_of_row row
row_sized row = row_size row ∙ ap (λ (n : ℕ). null_bytes (length row) + n) (values_sized row)

-- ---- the sum of numbers, each behind a place

abbrev total : (ℕ → Bool) → List (ℕ × ℕ) → ℕ
total p [] = 0
total p (x ∷ xs) = cond (p x.0) x.1 0 + total p xs

-- a test that is one of two, and never both
total_two : (p q r : ℕ → Bool) → ((k n : ℕ) → cond (p k) n 0 ≡ cond (q k) n 0 + cond (r k) n 0) → (xs : List (ℕ × ℕ)) → total p xs ≡ total q xs + total r xs
total_two p q r two [] = refl
total_two p q r two (x ∷ xs) = omega (arith, two x.0 x.1, total_two p q r two xs)

-- no place passes
total_none : (p : ℕ → Bool) → ((k n : ℕ) → cond (p k) n 0 ≡ 0) → (xs : List (ℕ × ℕ)) → total p xs ≡ 0
total_none p none [] = refl
total_none p none (x ∷ xs) = omega (arith, none x.0 x.1, total_none p none xs)

-- 1 for each column, behind its place in the key
abbrev ones : List Column → List (ℕ × ℕ)
ones cols = map (λ c. (c.key, 1)) cols

-- the size of each value, behind the same
abbrev sizes : List Column → List Value → List (ℕ × ℕ)
sizes [] row = []
sizes (c ∷ cols) [] = []
sizes (c ∷ cols) (v ∷ row) = (c.key, size_of_value v) ∷ sizes cols row

counted : (p : ℕ → Bool) (cols : List Column) → length (filter (λ c. p c.key) cols) ≡ total p (ones cols)
counted p [] = refl
counted p (c ∷ cols) = chosen (counted p cols) (p c.key)
  where
    chosen : length (filter (λ c. p c.key) cols) ≡ total p (ones cols) → (b : Bool) → length (cond b (c ∷ filter (λ c. p c.key) cols) (filter (λ c. p c.key) cols)) ≡ cond b 1 0 + total p (ones cols)
    chosen later true = omega (arith, later)
    chosen later false = omega (arith, later)

-- where no column's place passes, no value is counted
none_sized : (p : ℕ → Bool) (cols : List Column) (row : List Value) → total p (ones cols) ≡ 0 → total p (sizes cols row) ≡ 0
none_sized p [] row none = refl
none_sized p (c ∷ cols) [] none = refl
none_sized p (c ∷ cols) (v ∷ row) none = chosen (none_sized p cols row) (p c.key) none
  where
    chosen : (total p (ones cols) ≡ 0 → total p (sizes cols row) ≡ 0) → (b : Bool) → cond b 1 0 + total p (ones cols) ≡ 0 → cond b (size_of_value v) 0 + total p (sizes cols row) ≡ 0
    chosen later true none = absurd (omega arith)
    chosen later false none = omega (arith, later (omega arith))

-- the cell of a place that one column has
cell_sized : (cols : List Column) (row : List Value) (place : ℕ) → total (λ k. k == place) (ones cols) ≤ 1 → size_of_value (key_cell cols row place) ≡ total (λ k. k == place) (sizes cols row)
cell_sized [] row place one = refl
cell_sized (c ∷ cols) [] place one = refl
cell_sized (c ∷ cols) (v ∷ row) place one = chosen (cell_sized cols row place) (c.key == place) one
  where
    chosen : (total (λ k. k == place) (ones cols) ≤ 1 → size_of_value (key_cell cols row place) ≡ total (λ k. k == place) (sizes cols row)) → (b : Bool) → cond b 1 0 + total (λ k. k == place) (ones cols) ≤ 1 →
        size_of_value (cond b v (key_cell cols row place)) ≡ cond b (size_of_value v) 0 + total (λ k. k == place) (sizes cols row)
    chosen later true one = omega (arith, none_sized (λ (k : ℕ). k == place) cols row (omega arith))
    chosen later false one = omega (arith, later (omega arith))

-- ---- places from one on

abbrev is_from : ℕ → ℕ → ℕ → Bool
is_from a n k = nat_le a k && nat_lt k (a + n)

first_or_later : (a n k m : ℕ) → cond (is_from a (suc n) k) m 0 ≡ cond (k == a) m 0 + cond (is_from (a + 1) n k) m 0
first_or_later a n k m = grind (arith, nat_tests)

none_from : (a k m : ℕ) → cond (is_from a 0 k) m 0 ≡ 0
none_from a k m = grind (arith, nat_tests)

-- each of these places is that of one column
one_of : (cols : List Column) (place : ℕ) → has_place cols place ≡ true → total (λ k. k == place) (ones cols) ≡ 1
one_of cols place h = sym (counted (λ (k : ℕ). k == place) cols) ∙ is_one (length (filter (λ (c : Column). c.key == place) cols)) h
  where
    is_one : (n : ℕ) → (n == 1) ≡ true → n ≡ 1
    is_one n h = grind (arith, nat_tests)

places_counted : (cols : List Column) (a n : ℕ) → list_all (has_place cols) (range_with_len a n) ≡ true → total (is_from a n) (ones cols) ≡ n
places_counted cols a zero h = total_none (is_from a 0) (none_from a) (ones cols)
places_counted cols a (suc n) h =
    let parts = and_parts (has_place cols a) (list_all (has_place cols) (range_with_len (a + 1) n)) h in
    let two = total_two (is_from a (suc n)) (λ (k : ℕ). k == a) (is_from (a + 1) n) (first_or_later a n) (ones cols) in
    omega (arith, two, one_of cols a parts.0, places_counted cols (a + 1) n parts.1)

cells_sized : (cols : List Column) (row : List Value) (a n : ℕ) → list_all (has_place cols) (range_with_len a n) ≡ true → size_of_values (map (key_cell cols row) (range_with_len a n)) ≡ total (is_from a n) (sizes cols row)
cells_sized cols row a zero h = sym (total_none (is_from a 0) (none_from a) (sizes cols row))
cells_sized cols row a (suc n) h =
    let parts = and_parts (has_place cols a) (list_all (has_place cols) (range_with_len (a + 1) n)) h in
    let two = total_two (is_from a (suc n)) (λ (k : ℕ). k == a) (is_from (a + 1) n) (first_or_later a n) (sizes cols row) in
    let here = cell_sized cols row a (let one : total (λ (k : ℕ). k == a) (ones cols) ≤ 1 = omega (arith, one_of cols a parts.0) in one) in
    omega (arith, two, here, cells_sized cols row (a + 1) n parts.1)

-- ---- the key

key_or_past : (n k m : ℕ) → cond (nat_le 1 k) m 0 ≡ cond (is_from 1 n k) m 0 + cond (nat_lt n k) m 0
key_or_past n k m = grind (arith, nat_tests)

-- the places of key columns are 1 to their number
key_total : (cols : List Column) (row : List Value) → list_all (has_place cols) (range_with_len 1 (key_size cols)) ≡ true → total (nat_le 1) (sizes cols row) ≡ total (is_from 1 (key_size cols)) (sizes cols row)
key_total cols row h =
    let size : ℕ = key_size cols in
    let columns = total_two (nat_le 1) (is_from 1 size) (nat_lt size) (key_or_past size) (ones cols) in
    let values = total_two (nat_le 1) (is_from 1 size) (nat_lt size) (key_or_past size) (sizes cols row) in
    let past : total (nat_lt size) (ones cols) ≡ 0 = omega (arith, columns, places_counted cols 1 size h, counted (nat_le 1) cols) in
    omega (arith, values, none_sized (nat_lt size) cols row past)

key_or_none : (k n m : ℕ) → n ≡ m → cond (k == 0) 0 n ≡ cond (nat_le 1 k) m 0
key_or_none k n m e = grind (arith, nat_tests)

sum_total : (cols : List Column) (row : List Value) → key_sum cols row ≡ total (nat_le 1) (sizes cols row)
sum_total [] row = refl
sum_total (c ∷ cols) [] = refl
sum_total (c ∷ cols) (v ∷ row) = omega (arith, key_or_none c.key (length (concat (value_field v))) (size_of_value v) (value_sized v), sum_total cols row)

-- the bytes of a key, where one column has each of its places
pub key_sized : (cols : List Column) (row : List Value) → list_all (has_place cols) (range_with_len 1 (key_size cols)) ≡ true → length (key_bytes cols row) ≡ size_of_values (key_of cols row)
key_sized cols row h = key_size_is cols row ∙ sum_total cols row ∙ key_total cols row h ∙ sym (cells_sized cols row 1 (key_size cols) h)

-- the columns of a good definition have each place once
pub definition_places : (cols : List Column) → is_definition cols ≡ true → list_all (has_place cols) (range_with_len 1 (key_size cols)) ≡ true
definition_places cols h =
    let size : ℕ = key_size cols in
    let places : Bool = list_all (has_place cols) (range_with_len 1 size) in
    let keys : Bool = nat_le 1 size && (nat_le size 16 && places) in
    let few = and_parts (nat_le (length cols) 64) (are_distinct (map (λ (c : Column). c.name) cols) && (list_all is_column cols && keys)) h in
    let names = and_parts (are_distinct (map (λ (c : Column). c.name) cols)) (list_all is_column cols && keys) few.1 in
    let each = and_parts (list_all is_column cols) keys names.1 in
    let some = and_parts (nat_le 1 size) (nat_le size 16 && places) each.1 in
    (and_parts (nat_le size 16) places some.1).1
