-- Words that are numbers.
use Rattle.std.proofs.Common.{◌≡◌, ℕ, ◌+◌, ◌^◌, ◌<◌, ◌≤◌, Bool, true, false, cond, not, ◌&&◌, ◌||◌, ◌==◌, List, [], ◌∷◌, length, refl, sym, ap, ◌∙◌, arith, rules, tests, inl, inr, lit<, w64}
use Rattle.std.specs.Prelude.{Option, Some, None, Result, Ok, Err, ℤ, pos, neg_ℤ, nat_lt, nat_le, codes}
use Rattle.std.specs.Option.{option_map}
use Rattle.std.specs.Result.{result_ok, IsOk, MatchResult, OkIff}
use Rattle.std.specs.List.{list_all}
use Rattle.std.specs.Char.{is_ascii_digit}
use Rattle.std.specs.Str.{bytes_eq, IsAscii}
use Rattle.std.specs.Str.Parse.{digits_value, ParsesUnsigned, ParsesSigned, AllDigits}
use Rattle.std.proofs.lemmas.Bool.{and_parts, cases_Bool, leb-true}
use Rattle.std.proofs.lemmas.Str.Parse.{IsNumeralModel, IsDigitsTest, numerals_by_value, parse_digits, parse_signed_minus, parse_signed_digits}
use Rattle.std.proofs.lemmas.Fmt.{IsAscii-from_digits}
use Rattle.std.proofs.lemmas.Slice.Eq.{bytes_eq-Decides}
use Rattle.std.proofs.lemmas.Bool.Decides.{nat_tests}
use borrow.Author.Tests.{ltb-true}
use Rattle.reply_text.specs.Numbers.{is_counting, is_numeral, number_on, negative_on, signed_on}

abbrev AreDigits : List ℕ → Type 0
AreDigits ds = list_all is_ascii_digit ds ≡ true

pub own : IsNumeralModel (λ ds. list_all is_ascii_digit ds ≡ true) (digits_value 10)
own = numerals_by_value _ (search rules)

-- a result is Ok where no error meets what is known of it
pub ok_only : {T E : Type 0} (r : Result T E) (P : T → Type 0) (Q : E → Type 0) → MatchResult r P Q → ((e : E) → Q e → ⊥) → IsOk r
ok_only (Ok x) P Q h no_error = refl
ok_only (Err e) P Q h no_error = absurd (no_error e h)

-- digits, and at least one
pub counting_digits : (word : List ℕ) → is_counting word ≡ true → AreDigits word × (0 < length word)
counting_digits [] h = cc
counting_digits (d ∷ ds) h = ((and_parts (not (d == 48)) (list_all is_ascii_digit (d ∷ ds)) h).1, omega arith)

pub numeral_digits : (word : List ℕ) → is_numeral word ≡ true → AreDigits word × (0 < length word)
numeral_digits word h = elim (cases_Bool (is_counting word)) [
  | inl counts ↦ counting_digits word counts
  | inr isnt ↦ (let same : word ≡ codes "0" = (bytes_eq-Decides word (codes "0")).0 (ap (λ (b : Bool). b || bytes_eq word (codes "0")) (sym isnt) ∙ h) in rw same (refl, lit< tt))
]

pub digits_ascii : (word : List ℕ) → AreDigits word → IsAscii word
digits_ascii word h = IsAscii-from_digits word (own.to word h)

-- what the parser of an unsigned number answers of a numeral
number_by : {E : Type 0} (r : Result ℕ E) (n v most : ℕ) (b : Bool) → b ≡ true → 0 < n → OkIff r ((0 < n) × (v < most)) v → result_ok r ≡ cond (b && nat_lt v most) (Some v) None
number_by (Ok x) n v most b e some h = let small : nat_lt v most ≡ true = grind (arith, nat_tests, h.0.1) in rw (e, small) (ap Some h.1)
number_by (Err x) n v most b e some h = elim (cases_Bool (nat_lt v most)) [
  | inl small ↦ absurd (h (some, ltb-true v most small))
  | inr isnt ↦ rw (e, isnt) refl
]

pub number_parsed : {E : Type 0} (k : ℕ) (word : List ℕ) (r : Result ℕ E) → is_numeral word ≡ true → ParsesUnsigned k 10 word r → result_ok r ≡ number_on (2 ^ k) word
number_parsed k word r e h =
    let digits = numeral_digits word e in
    number_by r (length word) (digits_value 10 word) (2 ^ k) (is_numeral word) e digits.1 (parse_digits own k word r h digits.0)

-- the parser of signed numbers, at digits and at a minus before them
positive_by : {E : Type 0} (r : Result ℤ E) (n v most : ℕ) (b : Bool) → b ≡ true → 0 < n → OkIff r ((0 < n) × (v < most)) (pos v) → result_ok r ≡ option_map pos (cond {A = Option ℕ} (b && nat_lt v most) (Some v) None)
positive_by (Ok x) n v most b e some h = let small : nat_lt v most ≡ true = grind (arith, nat_tests, h.0.1) in rw (e, small) (ap Some h.1)
positive_by (Err x) n v most b e some h = elim (cases_Bool (nat_lt v most)) [
  | inl small ↦ absurd (h (some, ltb-true v most small))
  | inr isnt ↦ rw (e, isnt) refl
]

pub positive_parsed : {E : Type 0} (word : List ℕ) (r : Result ℤ E) → is_numeral word ≡ true → ParsesSigned w64 10 word r → result_ok r ≡ option_map pos (number_on (2 ^ 63) word)
positive_parsed word r e h =
    let digits = numeral_digits word e in
    positive_by r (length word) (digits_value 10 word) (2 ^ 63) (is_numeral word) e digits.1 (parse_signed_digits own w64 word r h digits.0)

negative_by : {E : Type 0} (r : Result ℤ E) (P : Type 0) (n v most : ℕ) (z : ℤ) (b : Bool) → b ≡ true → P → 0 < n → OkIff r (P × (0 < n) × (v ≤ most)) z → result_ok r ≡ cond (b && nat_le v most) (Some z) None
negative_by (Ok x) P n v most z b e p some h = let small : nat_le v most ≡ true = grind (arith, nat_tests, h.0.2) in rw (e, small) (ap Some h.1)
negative_by (Err x) P n v most z b e p some h = elim (cases_Bool (nat_le v most)) [
  | inl small ↦ absurd (h (p, some, leb-true v most small))
  | inr isnt ↦ rw (e, isnt) refl
]

pub negative_parsed : {E : Type 0} (word digits : List ℕ) (r : Result ℤ E) → word ≡ 45 ∷ digits → is_counting digits ≡ true → ParsesSigned w64 10 word r → result_ok r ≡ negative_on digits
negative_parsed {E} word digits r same e h =
    let known = counting_digits digits e in
    let there : ParsesSigned {E = E} w64 10 (45 ∷ digits) r = rw same at h in
    negative_by r (AreDigits digits) (length digits) (digits_value 10 digits) (2 ^ 63) (neg_ℤ (pos (digits_value 10 digits))) (is_counting digits) e known.0 known.1 (parse_signed_minus own w64 (45 ∷ digits) r there refl)
