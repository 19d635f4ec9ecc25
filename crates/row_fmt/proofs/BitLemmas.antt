-- The bits of a byte, which columns they allow to be NULL, and the bytes that tell it of all columns.
use Rattle.std.proofs.Common.{◌≡◌, ℕ, zero, suc, ◌+◌, ◌*◌, ◌/◌, ◌%◌, ◌^◌, ◌<◌, ◌≤◌, ◌==◌, ◌&&◌, ◌||◌, Bool, true, false, cond, IsTrue, List, [], ◌∷◌, ◌++◌, length, take, drop, refl, sym, ap, subst, ◌∙◌, arith, eqb-true, lit<, pow_mono}
use Rattle.std.specs.Prelude.{⊤, Ok, Err}
use Rattle.std.proofs.Math.Nat.{pow-succ'}
use Rattle.std.proofs.lemmas.Bool.{and_parts}
use Rattle.std.proofs.lemmas.Bool.Decides.{nat_tests}
use Rattle.std.proofs.lemmas.List.{append-nil, take-append-drop, length-drop}
use Rattle.page_base.specs.declared.column.Column.{Column}
use Rattle.page_base.specs.Reading.{◌>>=◌}
use Rattle.page_base.proofs.FormatLemmas.{IsField, IsFormat, format_of_field, format_of_sequence, format_of_end, ok, read_is}
use Rattle.row_fmt.specs.Rows.{bits_number, bit_fields}
use Rattle.row_fmt.specs.Reading.{may_be_null, bits_of, group_at, nulls_at}

-- the column may be NULL where it is
abbrev pub Allows : Column → Bool → Type 0
Allows column true = IsTrue column.nullable
Allows column false = ⊤

-- a bit for each column, set only where the column may be NULL
abbrev pub AllowsNulls : List Column → List Bool → Type 0
AllowsNulls [] [] = ⊤
AllowsNulls [] (bit ∷ bits) = ⊥
AllowsNulls (column ∷ columns) [] = ⊥
AllowsNulls (column ∷ columns) (bit ∷ bits) = Allows column bit × AllowsNulls columns bits

both_true : (a b : Bool) → a ≡ true → b ≡ true → (a && b) ≡ true
both_true a b p q = ap (λ x. x && b) p ∙ q

half_below : (n b : ℕ) → b < 2 ^ suc n → b / 2 < 2 ^ n
half_below n b lt = omega (arith, pow-succ' 2 n)

double_below : (n b : ℕ) → b / 2 < 2 ^ n → b < 2 ^ suc n
double_below n b lt = omega (arith, pow-succ' 2 n)

parity : (b : ℕ) → cond (b % 2 == 1) 1 0 ≡ b % 2
parity b = grind (arith, nat_tests)

bits-back : (n b : ℕ) → b < 2 ^ n → bits_number (bits_of n b) ≡ b
bits-back zero b lt = omega arith
bits-back (suc n) b lt = omega (arith, parity b, bits-back n (b / 2) (half_below n b lt))

pub length-bits_of : (n b : ℕ) → length (bits_of n b) ≡ n
length-bits_of zero b = refl
length-bits_of (suc n) b = ap suc (length-bits_of n (b / 2))

bit_here : (b : Bool) (m : ℕ) → ((cond b 1 0 + 2 * m) % 2 == 1) ≡ b
bit_here true m = grind (arith, nat_tests)
bit_here false m = grind (arith, nat_tests)

bits_later : (b : Bool) (m : ℕ) → (cond b 1 0 + 2 * m) / 2 ≡ m
bits_later true m = omega arith
bits_later false m = omega arith

number-back : (bits : List Bool) → bits_of (length bits) (bits_number bits) ≡ bits
number-back [] = refl
number-back (b ∷ bits) = λ i. bit_here b (bits_number bits) i ∷ (ap (bits_of (length bits)) (bits_later b (bits_number bits)) ∙ number-back bits) i

pub bits_number-below : (bits : List Bool) → bits_number bits < 2 ^ length bits
bits_number-below [] = lit< tt
bits_number-below (true ∷ bits) = omega (arith, bits_number-below bits, pow-succ' 2 (length bits))
bits_number-below (false ∷ bits) = omega (arith, bits_number-below bits, pow-succ' 2 (length bits))

-- few bits are a small number
pub null_byte_small : (bits : List Bool) → length bits ≤ 7 → bits_number bits < 128
null_byte_small bits le = omega (arith, bits_number-below bits, power_small (length bits) le)
  where
    power_small : (n : ℕ) → n ≤ 7 → 2 ^ n ≤ 2 ^ 7
    power_small n le = pow_mono le

-- the columns allow what they may

may_below : (columns : List Column) (b : ℕ) → may_be_null columns b ≡ true → b < 2 ^ length columns
may_below [] b h = let zero_is : b ≡ 0 = eqb-true b 0 h in omega arith
may_below (c ∷ columns) b h = let parts = and_parts (c.nullable || b % 2 == 0) (may_be_null columns (b / 2)) h in double_below (length columns) b (may_below columns (b / 2) parts.1)

allowed : (c : Column) (bit even : Bool) → (bit ≡ true → even ≡ false) → (c.nullable || even) ≡ true → Allows c bit
allowed c true even odd h = one c.nullable even (odd refl) h
  where
    one : (n e : Bool) → e ≡ false → (n || e) ≡ true → n ≡ true
    one true e is h = refl
    one false e is h = sym is ∙ h
allowed c false even odd h = tt

odd_not_even : (b : ℕ) → (b % 2 == 1) ≡ true → (b % 2 == 0) ≡ false
odd_not_even b h = grind (arith, nat_tests)

may_allows : (columns : List Column) (b : ℕ) → may_be_null columns b ≡ true → AllowsNulls columns (bits_of (length columns) b)
may_allows [] b h = tt
may_allows (c ∷ columns) b h =
    let parts = and_parts (c.nullable || b % 2 == 0) (may_be_null columns (b / 2)) h in
    (allowed c (b % 2 == 1) (b % 2 == 0) (odd_not_even b) parts.0, may_allows columns (b / 2) parts.1)

may_here : (c : Column) (bit : Bool) (m : ℕ) → Allows c bit → (c.nullable || (cond bit 1 0 + 2 * m) % 2 == 0) ≡ true
may_here c true m h = ap (λ (n : Bool). n || (cond true 1 0 + 2 * m) % 2 == 0) h
may_here c false m h = either c.nullable ((cond false 1 0 + 2 * m) % 2 == 0) (grind (arith, nat_tests))
  where
    either : (a b : Bool) → b ≡ true → (a || b) ≡ true
    either true b h = refl
    either false b h = h

allows_may : (columns : List Column) (bits : List Bool) → AllowsNulls columns bits → may_be_null columns (bits_number bits) ≡ true
allows_may [] [] h = refl
allows_may [] (b ∷ bits) h = absurd h
allows_may (c ∷ columns) [] h = absurd h
allows_may (c ∷ columns) (b ∷ bits) h =
    both_true (c.nullable || (cond b 1 0 + 2 * bits_number bits) % 2 == 0) (may_be_null columns ((cond b 1 0 + 2 * bits_number bits) / 2)) (may_here c b (bits_number bits) h.0)
    (ap (may_be_null columns) (bits_later b (bits_number bits)) ∙ allows_may columns bits h.1)

pub length-allowed : (columns : List Column) (bits : List Bool) → AllowsNulls columns bits → length bits ≡ length columns
length-allowed [] [] h = refl
length-allowed [] (b ∷ bits) h = absurd h
length-allowed (c ∷ columns) [] h = absurd h
length-allowed (c ∷ columns) (b ∷ bits) h = ap suc (length-allowed columns bits h.1)

-- no column is NULL
no_nulls : List Column → List Bool
no_nulls [] = []
no_nulls (c ∷ columns) = false ∷ no_nulls columns

none_allowed : (columns : List Column) → AllowsNulls columns (no_nulls columns)
unfolding no_nulls
none_allowed [] = tt
none_allowed (c ∷ columns) = (tt, none_allowed columns)

-- ---- one byte

abbrev byte_field : List Bool → List ℕ
byte_field bits = bits_number bits ∷ []

group_takes : (columns : List Column) (bytes : List ℕ) (bits : List Bool) (rest : List ℕ) → group_at columns bytes ≡ Ok (bits, rest) → AllowsNulls columns bits × (bytes ≡ byte_field bits ++ rest)
unfolding group_at
group_takes columns [] bits rest e = absurd cc
group_takes columns (b ∷ bytes) bits rest e = chosen (may_be_null columns b) refl e
  where
    chosen : (t : Bool) → may_be_null columns b ≡ t → cond t (ok (bits_of (length columns) b) bytes) (Err (b ∷ bytes)) ≡ Ok (bits, rest) → AllowsNulls columns bits × (b ∷ bytes ≡ byte_field bits ++ rest)
    chosen true may e =
        let same = read_is (bits_of (length columns) b) bits bytes rest e in
        let number : b ≡ bits_number bits = sym (bits-back (length columns) b (may_below columns b may)) ∙ ap bits_number same.0 in
        (subst (AllowsNulls columns) same.0 (may_allows columns b may), (λ i. number i ∷ same.1 i))
    chosen false may e = absurd cc

group_again : (columns : List Column) (bits : List Bool) (rest : List ℕ) → AllowsNulls columns bits → group_at columns (byte_field bits ++ rest) ≡ Ok (bits, rest)
unfolding group_at
group_again columns bits rest h =
    ap (λ (t : Bool). cond t (ok (bits_of (length columns) (bits_number bits)) rest) (Err (bits_number bits ∷ rest))) (allows_may columns bits h)
    ∙ ap (λ (bs : List Bool). ok bs rest) (ap (λ (n : ℕ). bits_of n (bits_number bits)) (sym (length-allowed columns bits h)) ∙ number-back bits)

group_stays : (columns : List Column) (bytes rest : List ℕ) → group_at columns bytes ≡ Err rest → rest ≡ bytes
unfolding group_at
group_stays columns [] rest e = let same : [] ≡ rest = cc in sym same
group_stays columns (b ∷ bytes) rest e = chosen (may_be_null columns b) e
  where
    chosen : (t : Bool) → cond t (ok (bits_of (length columns) b) bytes) (Err (b ∷ bytes)) ≡ Err rest → rest ≡ b ∷ bytes
    chosen true e = absurd cc
    chosen false e = let same : b ∷ bytes ≡ rest = cc in sym same

IsField-group : (columns : List Column) → IsField (AllowsNulls columns) byte_field (group_at columns)
IsField-group columns = record {
  some = no_nulls columns;
  some_fits = none_allowed columns;
  takes = λ bytes bits rest h e. group_takes columns bytes bits rest e;
  again = group_again columns;
  stays = group_stays columns;
}

-- ---- all bytes

allows-take : (k : ℕ) (columns : List Column) (bits : List Bool) → AllowsNulls columns bits → AllowsNulls (take k columns) (take k bits)
allows-take zero columns bits h = tt
allows-take (suc k) [] [] h = tt
allows-take (suc k) [] (b ∷ bits) h = absurd h
allows-take (suc k) (c ∷ columns) [] h = absurd h
allows-take (suc k) (c ∷ columns) (b ∷ bits) h = (h.0, allows-take k columns bits h.1)

allows-drop : (k : ℕ) (columns : List Column) (bits : List Bool) → AllowsNulls columns bits → AllowsNulls (drop k columns) (drop k bits)
allows-drop zero columns bits h = h
allows-drop (suc k) [] [] h = tt
allows-drop (suc k) [] (b ∷ bits) h = absurd h
allows-drop (suc k) (c ∷ columns) [] h = absurd h
allows-drop (suc k) (c ∷ columns) (b ∷ bits) h = allows-drop k columns bits h.1

-- the bits of the first columns, and those of the others
record IsJoined (k : ℕ) (columns : List Column) (first later : List Bool) : Type 0 where
  allows : AllowsNulls columns (first ++ later)
  front : take k (first ++ later) ≡ first
  back : drop k (first ++ later) ≡ later

joined : (k : ℕ) (columns : List Column) (first later : List Bool) → AllowsNulls (take k columns) first → AllowsNulls (drop k columns) later → IsJoined k columns first later
joined zero columns [] later hf hl = record { allows = hl; front = refl; back = refl }
joined zero columns (b ∷ first) later hf hl = absurd hf
joined (suc k) [] [] [] hf hl = record { allows = tt; front = refl; back = refl }
joined (suc k) [] [] (b ∷ later) hf hl = absurd hl
joined (suc k) [] (b ∷ first) later hf hl = absurd hf
joined (suc k) (c ∷ columns) [] later hf hl = absurd hf
joined (suc k) (c ∷ columns) (b ∷ first) later hf hl =
    let j = joined k columns first later hf.1 hl in
    record { allows = (hf.0, j.allows); front = ap (λ (bs : List Bool). b ∷ bs) j.front; back = j.back }

nothing : (columns : List Column) → length columns ≤ 0 → columns ≡ []
nothing [] le = refl
nothing (c ∷ columns) le = absurd (omega arith)

no_bits : (columns : List Column) (bits : List Bool) → length columns ≤ 0 → AllowsNulls columns bits → bits ≡ []
no_bits [] [] le h = refl
no_bits [] (b ∷ bits) le h = absurd h
no_bits (c ∷ columns) bits le h = absurd (omega arith)

no_columns : (columns : List Column) → length columns ≤ 0 → AllowsNulls columns []
no_columns [] le = tt
no_columns (c ∷ columns) le = absurd (omega arith)

module _ (columns : List Column) (first : List Bool) (first_fits : AllowsNulls (take 8 columns) first) where
  abbrev Begun : List Bool → Type 0
  Begun bits = AllowsNulls columns bits × (take 8 bits ≡ first)

  nulls_end : (later : List Bool) → AllowsNulls (drop 8 columns) later → IsFormat (λ bits. Begun bits × (drop 8 bits ≡ later)) (λ bits. []) (λ bytes. Ok (first ++ later, bytes))
  nulls_end later fits =
      let j = joined 8 columns first later first_fits fits in
      format_of_end (λ bits. Begun bits × (drop 8 bits ≡ later)) (λ bits. []) (first ++ later) (record {
        fits = ((j.allows, j.front), j.back);
        only = λ bits h. sym (parts bits) ∙ (λ i. h.0.1 i ++ h.1 i);
        none = refl;
      })
    where
      parts : (bits : List Bool) → take 8 bits ++ drop 8 bits ≡ bits
      parts bits = take-append-drop 8 bits

pub IsFormat-nulls : (n : ℕ) (columns : List Column) → length columns ≤ 8 * n → IsFormat (AllowsNulls columns) (bit_fields n) (nulls_at n columns)
unfolding nulls_at bit_fields
IsFormat-nulls zero columns le = format_of_end (AllowsNulls columns) (bit_fields zero) [] (record { fits = no_columns columns le; only = λ bits h. no_bits columns bits le h; none = refl })
IsFormat-nulls (suc n) columns le =
    format_of_sequence (AllowsNulls (take 8 columns)) (λ bits. byte_field bits ∷ []) (group_at (take 8 columns)) (AllowsNulls columns) (bit_fields (suc n)) (take 8) (λ bits. bit_fields n (drop 8 bits))
    (λ group bytes. nulls_at n (drop 8 columns) bytes >>= λ later. Ok (group ++ later.0, later.1)) (record {
      first = format_of_field (AllowsNulls (take 8 columns)) byte_field (group_at (take 8 columns)) (IsField-group (take 8 columns));
      second = λ first fits. format_of_sequence (AllowsNulls (drop 8 columns)) (bit_fields n) (nulls_at n (drop 8 columns)) (λ bits. AllowsNulls columns bits × (take 8 bits ≡ first)) (λ bits. bit_fields n (drop 8 bits)) (drop 8) (λ bits. []) (λ later bytes. Ok (first ++ later, bytes)) (record {
        first = IsFormat-nulls n (drop 8 columns) (omega (arith, length-drop 8 columns));
        second = nulls_end columns first fits;
        fits = λ bits h. allows-drop 8 columns bits h.0;
        are = λ bits h. sym (append-nil (bit_fields n (drop 8 bits)));
      });
      fits = λ bits h. allows-take 8 columns bits h;
      are = λ bits h. refl;
    })
