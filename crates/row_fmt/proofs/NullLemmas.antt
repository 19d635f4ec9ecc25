-- The bytes that tell which columns are NULL, read one by one, and the bit of a column in them.
use Rattle.std.proofs.Common.{inl, inr, cond, ◌≡◌, ℕ, zero, suc, ◌+◌, ◌-◌, ◌*◌, ◌/◌, ◌%◌, ◌^◌, ◌<◌, ◌≤◌, ◌==◌, min, Bool, true, false, List, [], ◌∷◌, ◌++◌, length, take, drop, get_or, refl, sym, ap, ◌∙◌, arith, append_assoc, drop-cons, add-one}
use Rattle.std.specs.Prelude.{Ok, Err, nat_lt}
use Rattle.std.proofs.Math.Nat.{div-div-eq-div-mul, div-one, pow-succ'}
use Rattle.std.proofs.Math.ListN.{get_or-append}
use Rattle.std.proofs.lemmas.Bool.{ltb-true, ltb-false, cases_Bool}
use Rattle.std.proofs.lemmas.List.{append-nil, length-append, length-take, length-drop, take_min, take_all, drop-drop, drop_all, get_or-append-add}
use Rattle.page_base.specs.declared.column.Column.{Column}
use Rattle.page_base.specs.Reading.{Read, ◌>>=◌}
use Rattle.page_base.specs.declared.value.Value.{Value}
use Rattle.page_base.proofs.FormatLemmas.{ok, read_is}
use Rattle.page_base.proofs.TimesLoop.{with_front}
use Rattle.byte_fields.specs.declared.stop.Stop.{Stop}
use Rattle.byte_fields.specs.declared.stop.Stop.TheVariants as stop
use Rattle.byte_fields.specs.Answers.{Fails}
use Rattle.row_fmt.specs.Reading.{may_be_null, bits_of, group_at, nulls_at, null_bits, null_bit, cell_at, values_at}
use Rattle.row_fmt.proofs.BitLemmas.{length-bits_of}

-- eight elements, or all of fewer
pub first_eight : {X : Type 0} (xs : List X) → take (min (length xs) 8) xs ≡ take 8 xs
first_eight xs = let turned : min (length xs) 8 ≡ min 8 (length xs) = omega arith in ap (λ (k : ℕ). take k xs) turned ∙ take_min 8 xs

-- eight further on
eight_more : {X : Type 0} (i : ℕ) (xs : List X) → drop 8 (drop (8 * i) xs) ≡ drop (8 * suc i) xs
eight_more i xs = let sum : 8 * i + 8 ≡ 8 * suc i = omega arith in drop-drop 8 (8 * i) xs ∙ ap (λ (k : ℕ). drop k xs) sum

eight_before : {X : Type 0} (i : ℕ) (xs : List X) → drop (8 * i) (drop 8 xs) ≡ drop (8 * suc i) xs
eight_before i xs = let sum : 8 + 8 * i ≡ 8 * suc i = omega arith in drop-drop (8 * i) 8 xs ∙ ap (λ (k : ℕ). drop k xs) sum

-- a slice from a place on
pub tail_slice : {X : Type 0} (k : ℕ) (xs : List X) → take (length xs - k) (drop k xs) ≡ drop k xs
tail_slice k xs = take_all (length xs - k) (drop k xs) (omega (arith, length-drop k xs))

-- nothing is read yet
pub from_nothing : {X : Type 0} (read : Read (List X)) → with_front [] read ≡ read
from_nothing (Ok xs) = refl
from_nothing (Err rest) = refl

pub no_nulls_yet : (columns : List Column) (n : ℕ) (all bytes : List ℕ) → bytes ≡ all → with_front (null_bits 0 columns all) (nulls_at (n - 0) columns bytes) ≡ nulls_at n columns all
unfolding null_bits
no_nulls_yet columns n all bytes e = let same : n - 0 ≡ n = omega arith in ap (λ (m : ℕ). with_front [] (nulls_at m columns bytes)) same ∙ from_nothing (nulls_at n columns bytes) ∙ ap (nulls_at n columns) e

-- the bits of one more byte
pub null_bits-more : (i : ℕ) (columns : List Column) (bytes : List ℕ) → i < length bytes → null_bits (suc i) columns bytes ≡ null_bits i columns bytes ++ bits_of (length (take 8 (drop (8 * i) columns))) (get_or bytes i 0)
unfolding null_bits
null_bits-more i columns [] lt = absurd (omega arith)
null_bits-more zero columns (b ∷ bytes) lt = append-nil (bits_of (length (take 8 columns)) b)
null_bits-more (suc i) columns (b ∷ bytes) lt =
    ap (λ (bs : List Bool). bits_of (length (take 8 columns)) b ++ bs) (null_bits-more i (drop 8 columns) bytes (omega arith))
    ∙ sym (append_assoc (bits_of (length (take 8 columns)) b) (null_bits i (drop 8 columns) bytes) (bits_of (length (take 8 (drop (8 * i) (drop 8 columns)))) (get_or bytes i 0)))
    ∙ ap (λ (cs : List Column). (bits_of (length (take 8 columns)) b ++ null_bits i (drop 8 columns) bytes) ++ bits_of (length (take 8 cs)) (get_or bytes i 0)) (eight_before i columns)

-- no later byte matters
pub null_bits-take : (n : ℕ) (columns : List Column) (bytes : List ℕ) → null_bits n columns (take n bytes) ≡ null_bits n columns bytes
unfolding null_bits
null_bits-take zero columns bytes = refl
null_bits-take (suc n) columns [] = refl
null_bits-take (suc n) columns (b ∷ bytes) = ap (λ (bs : List Bool). bits_of (length (take 8 columns)) b ++ bs) (null_bits-take n (drop 8 columns) bytes)

-- a bit for each column
pub length-null_bits : (n : ℕ) (columns : List Column) (bytes : List ℕ) → length columns ≤ 8 * n → n ≤ length bytes → length (null_bits n columns bytes) ≡ length columns
unfolding null_bits
length-null_bits zero columns bytes le there = omega arith
length-null_bits (suc n) columns [] le there = absurd (omega arith)
length-null_bits (suc n) columns (b ∷ bytes) le there =
    let later = length-null_bits n (drop 8 columns) bytes (omega (arith, length-drop 8 columns)) (omega arith) in
    omega (arith, length-append (bits_of (length (take 8 columns)) b) (null_bits n (drop 8 columns) bytes), length-bits_of (length (take 8 columns)) b, later, length-take 8 columns, length-drop 8 columns)

bit-bits_of : (k b i : ℕ) → i < k → get_or (bits_of k b) i false ≡ (b / 2 ^ i % 2 == 1)
bit-bits_of zero b i lt = absurd (omega arith)
bit-bits_of (suc k) b zero lt = ap (λ (x : ℕ). x % 2 == 1) (sym (div-one b))
bit-bits_of (suc k) b (suc i) lt =
    bit-bits_of k (b / 2) i (omega arith) ∙ ap (λ (x : ℕ). x % 2 == 1) (div-div-eq-div-mul b 2 (2 ^ i) ∙ ap (λ (p : ℕ). b / p) (sym (pow-succ' 2 i)))

-- the bit of column i
pub bit-null_bits : (n : ℕ) (columns : List Column) (bytes : List ℕ) (i : ℕ) → length columns ≤ 8 * n → n ≤ length bytes → i < length columns → get_or (null_bits n columns bytes) i false ≡ null_bit bytes i
unfolding null_bits
bit-null_bits zero columns bytes i le there lt = absurd (omega arith)
bit-null_bits (suc n) columns [] i le there lt = absurd (omega arith)
bit-null_bits (suc n) columns (b ∷ bytes) i le there lt = elim (cases_Bool (nat_lt i 8)) [
  | inl low ↦
      let low_is : i < 8 = ltb-true i 8 low in
      let within : i < length (take 8 columns) = omega (arith, length-take 8 columns) in
      let quotient : i / 8 ≡ 0 = omega arith in
      let remainder : i % 8 ≡ i = omega arith in
      get_or-append (bits_of (length (take 8 columns)) b) (null_bits n (drop 8 columns) bytes) false i (omega (arith, length-bits_of (length (take 8 columns)) b))
      ∙ bit-bits_of (length (take 8 columns)) b i within
      ∙ (λ j. get_or (b ∷ bytes) (sym quotient j) 0 / 2 ^ (sym remainder j) % 2 == 1)
  | inr high ↦
      let high_is : 8 ≤ i = ltb-false i 8 high in
      let eight : length (bits_of (length (take 8 columns)) b) ≡ 8 = length-bits_of (length (take 8 columns)) b ∙ (let l : length (take 8 columns) ≡ 8 = omega (arith, length-take 8 columns) in l) in
      let place : i ≡ length (bits_of (length (take 8 columns)) b) + (i - 8) = omega (arith, eight) in
      let quotient : suc ((i - 8) / 8) ≡ i / 8 = omega arith in
      let remainder : (i - 8) % 8 ≡ i % 8 = omega arith in
      ap (λ (k : ℕ). get_or (bits_of (length (take 8 columns)) b ++ null_bits n (drop 8 columns) bytes) k false) place
      ∙ get_or-append-add (bits_of (length (take 8 columns)) b) (null_bits n (drop 8 columns) bytes) (i - 8) false
      ∙ bit-null_bits n (drop 8 columns) bytes (i - 8) (omega (arith, length-drop 8 columns)) (omega arith) (omega (arith, length-drop 8 columns))
      ∙ (λ j. get_or (b ∷ bytes) (quotient j) 0 / 2 ^ (remainder j) % 2 == 1)
]

-- ---- byte by byte

-- a byte that was read, and what is behind it
record WasRead (columns : List Column) (all : List ℕ) (i : ℕ) (bits : List Bool) (after : List ℕ) : Type 0 where
  within : i < length all
  bits_are : bits ≡ bits_of (length columns) (get_or all i 0)
  behind : after ≡ drop (suc i) all

group_was : (columns : List Column) (all : List ℕ) (i : ℕ) (bits : List Bool) (after : List ℕ) → group_at columns (drop i all) ≡ Ok (bits, after) → WasRead columns all i bits after
unfolding group_at
group_was columns [] zero bits after e = absurd cc
group_was columns [] (suc i) bits after e = absurd cc
group_was columns (b ∷ all) zero bits after e = chosen (may_be_null columns b) e
  where
    chosen : (t : Bool) → cond t (ok (bits_of (length columns) b) all) (Err (b ∷ all)) ≡ Ok (bits, after) → WasRead columns (b ∷ all) zero bits after
    chosen true e = let same = read_is (bits_of (length columns) b) bits all after e in record { within = omega arith; bits_are = sym same.0; behind = sym same.1 }
    chosen false e = absurd cc
group_was columns (b ∷ all) (suc i) bits after e =
    let w = group_was columns all i bits after e in
    record { within = omega (arith, w.within); bits_are = w.bits_are; behind = w.behind }

module _ (columns : List Column) (n i : ℕ) (all bytes : List ℕ) (total : Read (List Bool)) (at : bytes ≡ drop i all)
    (so_far : with_front (null_bits i columns all) (nulls_at (n - i) (drop (8 * i) columns) bytes) ≡ total) where
  regroup : (front bits : List Bool) (others : Read (List Bool)) → with_front front (others >>= λ later. Ok (bits ++ later.0, later.1)) ≡ with_front (front ++ bits) others
  regroup front bits (Ok later) = ap (λ (bs : List Bool). ok bs later.1) (sym (append_assoc front bits later.0))
  regroup front bits (Err rest) = refl

  -- one more byte was read
  pub nulls_more : (bits : List Bool) (after : List ℕ) → i < n → group_at (take 8 (drop (8 * i) columns)) bytes ≡ Ok (bits, after) →
      (after ≡ drop (i + 1) all) × (i + 1 ≤ length all) × (with_front (null_bits (i + 1) columns all) (nulls_at (n - (i + 1)) (drop (8 * (i + 1)) columns) after) ≡ total)
  unfolding nulls_at
  nulls_more bits after lt e =
      let w = group_was (take 8 (drop (8 * i) columns)) all i bits after (ap (group_at (take 8 (drop (8 * i) columns))) (sym at) ∙ e) in
      let k : n - i ≡ suc (n - suc i) = omega arith in
      let front = null_bits i columns all in
      let one : with_front front (nulls_at (n - i) (drop (8 * i) columns) bytes) ≡ with_front (front ++ bits) (nulls_at (n - suc i) (drop 8 (drop (8 * i) columns)) after) =
      ap (λ (m : ℕ). with_front front (nulls_at m (drop (8 * i) columns) bytes)) k
      ∙ ap (λ (r : Read (List Bool)). with_front front (r >>= λ group. nulls_at (n - suc i) (drop 8 (drop (8 * i) columns)) group.1 >>= λ later. Ok (group.0 ++ later.0, later.1))) e
      ∙ regroup front bits (nulls_at (n - suc i) (drop 8 (drop (8 * i) columns)) after) in
      let longer : front ++ bits ≡ null_bits (suc i) columns all = ap (λ (bs : List Bool). front ++ bs) w.bits_are ∙ sym (null_bits-more i columns all w.within) in
      let next : with_front (null_bits (suc i) columns all) (nulls_at (n - suc i) (drop (8 * suc i) columns) after) ≡ total =
      (λ j. with_front (sym longer j) (nulls_at (n - suc i) (sym (eight_more i columns) j) after)) ∙ sym one ∙ so_far in
      let plus : i + 1 ≡ suc i = add-one i in
      (w.behind ∙ ap (λ (m : ℕ). drop m all) (sym plus), omega (arith, w.within), ap (λ (m : ℕ). with_front (null_bits m columns all) (nulls_at (n - m) (drop (8 * m) columns) after)) plus ∙ next)

  -- a byte was refused
  pub nulls_stop : (rest : List ℕ) → i < n → group_at (take 8 (drop (8 * i) columns)) bytes ≡ Err rest → total ≡ Err rest
  unfolding nulls_at
  nulls_stop rest lt e =
      let k : n - i ≡ suc (n - suc i) = omega arith in
      let front = null_bits i columns all in
      sym so_far ∙ ap (λ (m : ℕ). with_front front (nulls_at m (drop (8 * i) columns) bytes)) k
      ∙ ap (λ (r : Read (List Bool)). with_front front (r >>= λ group. nulls_at (n - suc i) (drop 8 (drop (8 * i) columns)) group.1 >>= λ later. Ok (group.0 ++ later.0, later.1))) e

  pub nulls_fail : (e : Stop) (rest : List ℕ) → i < n → Fails e rest (group_at (take 8 (drop (8 * i) columns)) bytes) → Fails e rest total
  nulls_fail stop.Form rest lt h = nulls_stop rest lt h
  nulls_fail stop.Memory rest lt h = tt

  -- all were read
  pub nulls_end : i ≡ n → total ≡ Ok (null_bits n columns (take n all), bytes)
  unfolding nulls_at
  nulls_end is =
      let k : n - i ≡ 0 = omega arith in
      sym so_far ∙ ap (λ (m : ℕ). with_front (null_bits i columns all) (nulls_at m (drop (8 * i) columns) bytes)) k
      ∙ ap (λ (bs : List Bool). ok bs bytes) (append-nil (null_bits i columns all) ∙ ap (λ (m : ℕ). null_bits m columns all) is ∙ sym (null_bits-take n columns all))

-- ---- value by value

module _ (columns : List Column) (bits : List Bool) (i : ℕ) (front : List Value) (bytes : List ℕ) (total : Read (List Value))
    (so_far : with_front front (values_at (drop i columns) (drop i bits) bytes) ≡ total) where
  values_in_two : (column : Column) → i < length columns → i < length bits → column ≡ get_or columns i column →
      values_at (drop i columns) (drop i bits) bytes ≡ (cell_at (get_or bits i false) column.kind bytes >>= λ value. values_at (drop (suc i) columns) (drop (suc i) bits) value.1 >>= λ values. Ok (value.0 ∷ values.0, values.1))
  unfolding values_at
  values_in_two column lt lt_bits is =
      (λ j. values_at (drop-cons columns i column lt j) (drop-cons bits i false lt_bits j) bytes)
      ∙ ap (λ (c : Column). cell_at (get_or bits i false) c.kind bytes >>= λ value. values_at (drop (suc i) columns) (drop (suc i) bits) value.1 >>= λ values. Ok (value.0 ∷ values.0, values.1)) (sym is)

  value_regroup : (v : Value) (others : Read (List Value)) → with_front front (others >>= λ xs. Ok (v ∷ xs.0, xs.1)) ≡ with_front (front ++ v ∷ []) others
  value_regroup v (Ok xs) = ap (λ (ys : List Value). ok ys xs.1) (sym (append_assoc front (v ∷ []) xs.0))
  value_regroup v (Err rest) = refl

  -- one more value was read
  pub values_more : (column : Column) (v : Value) (after : List ℕ) → i < length columns → i < length bits → column ≡ get_or columns i column → cell_at (get_or bits i false) column.kind bytes ≡ Ok (v, after) →
      with_front (front ++ v ∷ []) (values_at (drop (i + 1) columns) (drop (i + 1) bits) after) ≡ total
  values_more column v after lt lt_bits is e =
      ap (λ (m : ℕ). with_front (front ++ v ∷ []) (values_at (drop m columns) (drop m bits) after)) (add-one i)
      ∙ sym (value_regroup v (values_at (drop (suc i) columns) (drop (suc i) bits) after))
      ∙ sym (ap (with_front front) (values_in_two column lt lt_bits is ∙ ap (λ (r : Read Value). r >>= λ value. values_at (drop (suc i) columns) (drop (suc i) bits) value.1 >>= λ values. Ok (value.0 ∷ values.0, values.1)) e))
      ∙ so_far

  -- a value was refused
  pub values_stop : (column : Column) (rest : List ℕ) → i < length columns → i < length bits → column ≡ get_or columns i column → cell_at (get_or bits i false) column.kind bytes ≡ Err rest → total ≡ Err rest
  values_stop column rest lt lt_bits is e =
      sym so_far ∙ ap (with_front front) (values_in_two column lt lt_bits is ∙ ap (λ (r : Read Value). r >>= λ value. values_at (drop (suc i) columns) (drop (suc i) bits) value.1 >>= λ values. Ok (value.0 ∷ values.0, values.1)) e)

  pub values_fail : (e : Stop) (column : Column) (rest : List ℕ) → i < length columns → i < length bits → column ≡ get_or columns i column → Fails e rest (cell_at (get_or bits i false) column.kind bytes) → Fails e rest total
  values_fail stop.Form column rest lt lt_bits is h = values_stop column rest lt lt_bits is h
  values_fail stop.Memory column rest lt lt_bits is h = tt

  -- all were read
  pub values_end : length columns ≤ i → total ≡ Ok (front, bytes)
  unfolding values_at
  values_end le =
      sym so_far ∙ ap (λ (cs : List Column). with_front front (values_at cs (drop i bits) bytes)) (drop_all i columns le) ∙ ap (λ (vs : List Value). ok vs bytes) (append-nil front)
