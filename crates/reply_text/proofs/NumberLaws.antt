-- Numbers are read as they are written.
use Rattle.std.proofs.Common.{◌≡◌, ◌≢◌, ◌⊎◌, ℕ, zero, suc, ◌+◌, ◌-◌, ◌^◌, ◌<◌, ◌≤◌, Bool, true, false, cond, not, ◌&&◌, ◌||◌, ◌==◌, List, [], ◌∷◌, length, get_or, refl, sym, ap, subst, ◌∙◌, arith, inl, inr, lit<, lit≤, eqb-true, eq-eqb}
use Rattle.std.specs.Prelude.{Option, Some, None, ℤ, pos, negsuc, neg_ℤ, nat_lt, nat_le, codes}
use Rattle.std.specs.Option.{option_map}
use Rattle.std.specs.List.{list_all}
use Rattle.std.specs.Char.{is_ascii_digit}
use Rattle.std.specs.Str.{bytes_eq}
use Rattle.std.specs.Str.Parse.{digits_value}
use Rattle.std.specs.Fmt.{decimal, signed_decimal}
use Rattle.std.proofs.lemmas.Bool.{and_parts, cases_Bool, leb-true}
use Rattle.std.proofs.lemmas.Bool.Decides.{nat_tests}
use Rattle.std.proofs.lemmas.Fmt.{decimal_digit, decimal_nonempty, first_decimal, digits_decimal, digits_value-decimal, decimal-digits_value}
use borrow.Author.Tests.{ltb-true}
use Rattle.std.proofs.lemmas.Slice.Eq.{bytes_eq-Decides}
use Rattle.plain_model.specs.Numbers.{fits_big}
use Rattle.reply_text.specs.Numbers.{is_counting, is_numeral, number_on, negative_on, signed_on}
use Rattle.reply_text.proofs.NumberLemmas.{own, numeral_digits, counting_digits}
use Rattle.reply_text.proofs.Options.{bound, mapped, chosen, guarded, both}

abbrev AreDigits : List ℕ → Type 0
AreDigits ds = list_all is_ascii_digit ds ≡ true

-- a 0 in front stands alone
zero_alone_by : (d : ℕ) (ds : List ℕ) → is_counting (d ∷ ds) ≡ true → d ≡ 48 → length (d ∷ ds) ≡ 1
zero_alone_by d ds h e = let first = (and_parts (not (d == 48)) (list_all is_ascii_digit (d ∷ ds)) h).0 in let here : (d == 48) ≡ true = eq-eqb d 48 e in absurd (by_not (d == 48) here first)
  where
    by_not : (b : Bool) → b ≡ true → not b ≡ true → ⊥
    by_not true e h = cc
    by_not false e h = cc

zero_alone : (word : List ℕ) → is_numeral word ≡ true → get_or word 0 0 ≡ 48 → length word ≡ 1
zero_alone [] h e = absurd (omega (arith, (numeral_digits [] h).1))
zero_alone (d ∷ ds) h e = elim (cases_Bool (is_counting (d ∷ ds))) [
  | inl counts ↦ zero_alone_by d ds counts e
  | inr isnt ↦ (let same : (d ∷ ds) ≡ codes "0" = (bytes_eq-Decides (d ∷ ds) (codes "0")).0 (ap (λ (b : Bool). b || bytes_eq (d ∷ ds) (codes "0")) (sym isnt) ∙ h) in ap length same)
]

-- a number that was read is written so
pub number_sound : (limit : ℕ) (word : List ℕ) (n : ℕ) → limit ≤ 2 ^ 64 → number_on limit word ≡ Some n → (word ≡ decimal n) × (nat_lt n limit ≡ true)
number_sound limit word n most h =
    let v : ℕ = digits_value 10 word in
    let known = guarded (is_numeral word && nat_lt v limit) v n h in
    let parts = and_parts (is_numeral word) (nat_lt v limit) known.0 in
    let digits = numeral_digits word parts.0 in
    let small : v < limit = ltb-true v limit parts.1 in
    let written : decimal v ≡ word = decimal-digits_value own word digits.0 digits.1 (zero_alone word parts.0) (omega (arith, small, most)) in
    (sym written ∙ ap decimal known.1, subst (λ (m : ℕ). nat_lt m limit ≡ true) known.1 parts.1)

-- digits whose first is above 0
counting_by : (word : List ℕ) → AreDigits word → 48 < get_or word 0 0 → is_counting word ≡ true
counting_by [] h more = absurd (omega (arith, more))
counting_by (d ∷ ds) h more = let other : (d == 48) ≡ false = grind (arith, nat_tests, more) in both (not (d == 48)) (list_all is_ascii_digit (d ∷ ds)) (ap not other) h

-- a number above 0 is written in digits of which the first isn't 0
pub decimal_counts : (n : ℕ) → 0 < n → n < 2 ^ 64 → is_counting (decimal n) ≡ true
decimal_counts n some small = counting_by (decimal n) (digits_decimal own n small) (first_decimal n some small)

pub decimal_numeral : (n : ℕ) → n < 2 ^ 64 → is_numeral (decimal n) ≡ true
decimal_numeral zero small = rw (decimal_digit 0 (lit< tt)) refl
decimal_numeral (suc n) small = ap (λ (b : Bool). b || bytes_eq (decimal (suc n)) (codes "0")) (decimal_counts (suc n) (omega arith) small)

-- a number that is written is read
pub number_back : (limit n : ℕ) → limit ≤ 2 ^ 64 → nat_lt n limit ≡ true → number_on limit (decimal n) ≡ Some n
number_back limit n most h =
    let small : n < 2 ^ 64 = omega (arith, ltb-true n limit h, most) in
    rw (decimal_numeral n small, digits_value-decimal own n small, h) refl

-- a word that is no number of a sign
digit_isnt : (d b : ℕ) → is_ascii_digit d ≡ true → is_ascii_digit b ≡ false → (d == b) ≡ false
digit_isnt d b h e = elim (cases_Bool (d == b)) [
  | inl same ↦ absurd (cc_of (is_ascii_digit b) (ap is_ascii_digit (sym (eqb-true d b same)) ∙ h) e)
  | inr isnt ↦ isnt
]
  where
    cc_of : (v : Bool) → v ≡ true → v ≡ false → ⊥
    cc_of v p q = cc

wide : 2 ^ 63 ≤ 2 ^ 64
wide = lit≤ tt

wider : 2 ^ 63 ≤ 2 ^ 64 - 1
wider = lit≤ tt

-- the first byte of a numeral is another one than a byte that is no digit
pub numeral_first : (d : ℕ) (ds : List ℕ) (b : ℕ) → is_numeral (d ∷ ds) ≡ true → is_ascii_digit b ≡ false → (d == b) ≡ false
numeral_first d ds b h e = digit_isnt d b (and_parts (is_ascii_digit d) (list_all is_ascii_digit ds) (numeral_digits (d ∷ ds) h).0).0 e

signed_plain : (word : List ℕ) → is_numeral word ≡ true → signed_on word ≡ option_map pos (number_on (2 ^ 63) word)
signed_plain [] h = absurd (omega (arith, (numeral_digits [] h).1))
signed_plain (d ∷ ds) h = rw (numeral_first d ds 45 h refl) refl

-- a number with or without a minus is read as it is written
pub signed_back : (z : ℤ) → fits_big z ≡ true → signed_on (signed_decimal z) ≡ Some z
signed_back (pos n) h =
    let small : n < 2 ^ 64 = omega (arith, ltb-true n (2 ^ 63) h, wide) in
    signed_plain (decimal n) (decimal_numeral n small) ∙ ap (option_map pos) (number_back (2 ^ 63) n (lit≤ tt) h)
signed_back (negsuc n) h =
    let small : n < 2 ^ 63 = ltb-true n (2 ^ 63) h in
    let fits : suc n < 2 ^ 64 = omega (arith, small, wider) in
    let within : nat_le (suc n) (2 ^ 63) ≡ true = grind (arith, nat_tests, small) in
    rw (decimal_counts (suc n) (omega arith) fits, digits_value-decimal own (suc n) fits, within) refl

-- the digits behind a minus
negative_sound : (digits : List ℕ) (z : ℤ) → negative_on digits ≡ Some z → (45 ∷ digits ≡ signed_decimal z) × (fits_big z ≡ true)
negative_sound digits z h =
    let v : ℕ = digits_value 10 digits in
    let known = guarded (is_counting digits && nat_le v (2 ^ 63)) (neg_ℤ (pos v)) z h in
    let parts = and_parts (is_counting digits) (nat_le v (2 ^ 63)) known.0 in
    let counted = counting_digits digits parts.0 in
    let most : v ≤ 2 ^ 63 = leb-true v (2 ^ 63) parts.1 in
    let written : decimal v ≡ digits = decimal-digits_value own digits counted.0 counted.1 (zero_alone digits (ap (λ (b : Bool). b || bytes_eq digits (codes "0")) parts.0)) (omega (arith, most, wider)) in
    subst (λ (y : ℤ). (45 ∷ digits ≡ signed_decimal y) × (fits_big y ≡ true)) known.1 (by_value v digits parts.0 written most)
  where
    by_value : (v : ℕ) (digits : List ℕ) → is_counting digits ≡ true → decimal v ≡ digits → v ≤ 2 ^ 63 → (45 ∷ digits ≡ signed_decimal (neg_ℤ (pos v))) × (fits_big (neg_ℤ (pos v)) ≡ true)
    by_value zero digits counts written most = absurd (no_zero digits counts (sym (decimal_digit 0 (lit< tt)) ∙ written))
      where
        no_zero : (digits : List ℕ) → is_counting digits ≡ true → codes "0" ≡ digits → ⊥
        no_zero digits counts same = let at : is_counting (codes "0") ≡ true = ap is_counting same ∙ counts in cc
    by_value (suc n) digits counts written most = (ap (λ (ds : List ℕ). 45 ∷ ds) (sym written), grind (arith, nat_tests, most))

pub signed_sound : (word : List ℕ) (z : ℤ) → signed_on word ≡ Some z → (word ≡ signed_decimal z) × (fits_big z ≡ true)
signed_sound [] z h = cc
signed_sound (b ∷ bs) z h = elim (chosen (b == 45) (negative_on bs) (option_map pos (number_on (2 ^ 63) (b ∷ bs))) z h) [
  | inl minus ↦ (let same : b ≡ 45 = eqb-true b 45 minus.0 in let known = negative_sound bs z minus.1 in (ap (λ (c : ℕ). c ∷ bs) same ∙ known.0, known.1))
  | inr plain ↦ (let n = mapped (number_on (2 ^ 63) (b ∷ bs)) pos z plain.1 in let known = number_sound (2 ^ 63) (b ∷ bs) n.0 (lit≤ tt) n.1 in subst (λ (y : ℤ). (b ∷ bs ≡ signed_decimal y) × (fits_big y ≡ true)) n.2 known)
]
