-- How many bytes the fields of a row and of its key have.
use Rattle.std.proofs.Common.{◌≡◌, ◌≢◌, ℕ, zero, suc, ◌+◌, ◌==◌, ◌<◌, Bool, true, false, cond, List, [], ◌∷◌, ◌++◌, length, map, take, drop, get_or, refl, sym, ap, ◌∙◌, arith, add-one}
use Rattle.std.specs.Prelude.{nat_le, ℤ}
use Rattle.std.specs.Int.{w32, w64, cast_unsigned}
use Rattle.std.specs.List.{concat, flat_map}
use Rattle.std.proofs.lemmas.Bool.Decides.{nat_tests}
use Rattle.std.proofs.lemmas.List.{length-append, take_more}
use Rattle.std.proofs.lemmas.List.Folds.{concat-append}
use Rattle.std.proofs.lemmas.List.Concat.{flat_map-append}
use Rattle.page_base.specs.declared.column.Column.{Column}
use Rattle.page_base.specs.declared.value.Value.{Value}
use Rattle.page_base.specs.declared.value.Value.TheVariants.{Null, Int, Big, Text}
use Rattle.byte_fields.specs.Numbers.{number}
use Rattle.row_fmt.specs.Rows.{is_null, bit_fields, null_bytes, value_field, row_bytes}
use Rattle.row_fmt.specs.Keys.{Part, placed, key_parts, key_bytes}
use Rattle.byte_fields.proofs.Numbers.{length-number}

pub int_size : (z : ℤ) → length (concat (value_field (Int z))) ≡ 4
int_size z = omega (arith, length-append (number 4 (cast_unsigned w32 z)) [], length-number 4 (cast_unsigned w32 z))

pub big_size : (z : ℤ) → length (concat (value_field (Big z))) ≡ 8
big_size z = omega (arith, length-append (number 8 (cast_unsigned w64 z)) [], length-number 8 (cast_unsigned w64 z))

pub text_size : (text : List ℕ) → length (concat (value_field (Text text))) ≡ 2 + length text
text_size text =
    omega (arith, length-append (number 2 (length text) ++ text) [], length-append (number 2 (length text)) text, length-number 2 (length text))

-- the bytes of the values' fields
abbrev pub values_size : List Value → ℕ
values_size row = length (concat (flat_map value_field row))

pub values_size-cons : (v : Value) (row : List Value) → values_size (v ∷ row) ≡ length (concat (value_field v)) + values_size row
values_size-cons v row = ap length (concat-append (value_field v) (flat_map value_field row)) ∙ length-append (concat (value_field v)) (concat (flat_map value_field row))

pub values_size-append : (row others : List Value) → values_size (row ++ others) ≡ values_size row + values_size others
values_size-append row others =
    ap (λ (fs : List (List ℕ)). length (concat fs)) (flat_map-append value_field row others)
    ∙ ap length (concat-append (flat_map value_field row) (flat_map value_field others)) ∙ length-append (concat (flat_map value_field row)) (concat (flat_map value_field others))

-- one more value
pub values_size-more : (row : List Value) (i : ℕ) (v : Value) → i < length row → v ≡ get_or row i v → values_size (take (i + 1) row) ≡ values_size (take i row) + length (concat (value_field v))
values_size-more row i v lt is =
    let longer : take (i + 1) row ≡ take i row ++ v ∷ [] = take_more row i v lt ∙ ap (λ (x : Value). take i row ++ x ∷ []) (sym is) in
    ap values_size longer ∙ values_size-append (take i row) (v ∷ []) ∙ ap (λ (n : ℕ). values_size (take i row) + n) (values_size-cons v [] ∙ (let z : length (concat (value_field v)) + values_size [] ≡ length (concat (value_field v)) = omega arith in z))

length-bit_fields : (n : ℕ) (bits : List Bool) → length (concat (bit_fields n bits)) ≡ n
unfolding bit_fields
length-bit_fields zero bits = refl
length-bit_fields (suc n) bits = ap suc (length-bit_fields n (drop 8 bits))

pub row_size : (row : List Value) → length (row_bytes row) ≡ null_bytes (length row) + values_size row
unfolding row_bytes
row_size row =
    ap length (concat-append (bit_fields (null_bytes (length row)) (map is_null row)) (flat_map value_field row))
    ∙ length-append (concat (bit_fields (null_bytes (length row)) (map is_null row))) (concat (flat_map value_field row))
    ∙ ap (λ (n : ℕ). n + values_size row) (length-bit_fields (null_bytes (length row)) (map is_null row))

-- ---- the key

-- the bytes of the values of key columns
abbrev pub key_sum : List Column → List Value → ℕ
key_sum [] row = 0
key_sum (column ∷ columns) [] = 0
key_sum (column ∷ columns) (v ∷ row) = cond (column.key == 0) 0 (length (concat (value_field v))) + key_sum columns row

abbrev parts_size : List (Part Value) → ℕ
parts_size parts = values_size (map (λ (part : Part Value). part.1) parts)

placed_size : (part : Part Value) (parts : List (Part Value)) → parts_size (placed part parts) ≡ length (concat (value_field part.1)) + parts_size parts
placed_size part [] = values_size-cons part.1 []
placed_size part (first ∷ parts) = chosen (placed_size part parts) (nat_le part.0 first.0)
  where
    chosen : parts_size (placed part parts) ≡ length (concat (value_field part.1)) + parts_size parts → (b : Bool) → parts_size (cond b (part ∷ first ∷ parts) (first ∷ placed part parts)) ≡ length (concat (value_field part.1)) + parts_size (first ∷ parts)
    chosen later true = values_size-cons part.1 (map (λ (part : Part Value). part.1) (first ∷ parts))
    chosen later false =
        let here = values_size-cons first.1 (map (λ (part : Part Value). part.1) (placed part parts)) in
        let whole = values_size-cons first.1 (map (λ (part : Part Value). part.1) parts) in
        omega (arith, here, whole, later)

key_parts_size : (columns : List Column) (row : List Value) → parts_size (key_parts columns row) ≡ key_sum columns row
key_parts_size [] row = refl
key_parts_size (column ∷ columns) [] = refl
key_parts_size (column ∷ columns) (v ∷ row) = chosen (key_parts_size columns row) (column.key == 0)
  where
    chosen : parts_size (key_parts columns row) ≡ key_sum columns row → (b : Bool) → parts_size (cond b (key_parts columns row) (placed (column.key, v) (key_parts columns row))) ≡ cond b 0 (length (concat (value_field v))) + key_sum columns row
    chosen later true = omega (arith, later)
    chosen later false = omega (arith, placed_size (column.key, v) (key_parts columns row), later)

pub key_size_is : (columns : List Column) (row : List Value) → length (key_bytes columns row) ≡ key_sum columns row
unfolding key_bytes
key_size_is columns row = key_parts_size columns row

-- one more column
pub key_sum-more : (columns : List Column) (row : List Value) (i : ℕ) (column : Column) (v : Value) → i < length columns → i < length row → column ≡ get_or columns i column → v ≡ get_or row i v →
    key_sum (take (i + 1) columns) (take (i + 1) row) ≡ key_sum (take i columns) (take i row) + cond (column.key == 0) 0 (length (concat (value_field v)))
key_sum-more columns row i column v lt lt_row is v_is =
    ap (λ (m : ℕ). key_sum (take m columns) (take m row)) (add-one i) ∙ more columns row i lt lt_row is v_is
  where
    more : (columns : List Column) (row : List Value) (i : ℕ) → i < length columns → i < length row → column ≡ get_or columns i column → v ≡ get_or row i v →
        key_sum (take (suc i) columns) (take (suc i) row) ≡ key_sum (take i columns) (take i row) + cond (column.key == 0) 0 (length (concat (value_field v)))
    more [] row i lt lt_row is v_is = absurd (omega arith)
    more (c ∷ columns) [] i lt lt_row is v_is = absurd (omega arith)
    more (c ∷ columns) (w ∷ row) zero lt lt_row is v_is =
        let same : cond (c.key == 0) 0 (length (concat (value_field w))) ≡ cond (column.key == 0) 0 (length (concat (value_field v))) = (λ j. cond ((sym is j).key == 0) 0 (length (concat (value_field (sym v_is j))))) in
        omega (arith, same)
    more (c ∷ columns) (w ∷ row) (suc i) lt lt_row is v_is = omega (arith, more columns row i (omega arith) (omega arith) is v_is)

pub key_sum-then : (k n : ℕ) → k ≢ 0 → cond (k == 0) 0 n ≡ n
key_sum-then k n h = grind (arith, nat_tests)

pub key_sum-else : (k n : ℕ) → k ≡ 0 → cond (k == 0) 0 n ≡ 0
key_sum-else k n h = grind (arith, nat_tests)

-- a key column's value is counted, and a column that is not in the key isn't
pub key_sum-counted : (columns : List Column) (row : List Value) (i : ℕ) (column : Column) (v : Value) → i < length columns → i < length row → column ≡ get_or columns i column → v ≡ get_or row i v → column.key ≢ 0 →
    key_sum (take (i + 1) columns) (take (i + 1) row) ≡ key_sum (take i columns) (take i row) + length (concat (value_field v))
key_sum-counted columns row i column v lt lt_row is v_is in_key =
    key_sum-more columns row i column v lt lt_row is v_is ∙ ap (λ (n : ℕ). key_sum (take i columns) (take i row) + n) (key_sum-then column.key (length (concat (value_field v))) in_key)

pub key_sum-skipped : (columns : List Column) (row : List Value) (i : ℕ) (column : Column) → i < length columns → i < length row → column ≡ get_or columns i column → column.key ≡ 0 →
    key_sum (take (i + 1) columns) (take (i + 1) row) ≡ key_sum (take i columns) (take i row)
key_sum-skipped columns row i column lt lt_row is out =
    let v : Value = get_or row i Null in
    let none = key_sum-else column.key (length (concat (value_field v))) out in
    let here : v ≡ get_or row i v = get_or-any row i Null v lt_row in
    omega (arith, key_sum-more columns row i column v lt lt_row is here, none)
  where
    get_or-any : (xs : List Value) (i : ℕ) (d e : Value) → i < length xs → get_or xs i d ≡ get_or xs i e
    get_or-any [] i d e lt = absurd (omega arith)
    get_or-any (x ∷ xs) zero d e lt = refl
    get_or-any (x ∷ xs) (suc i) d e lt = get_or-any xs i d e (omega arith)
