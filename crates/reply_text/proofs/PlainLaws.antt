-- Numbers and names are plain words, in which nothing parts and no line ends.
use Rattle.std.proofs.Common.{◌≡◌, ◌⊎◌, ℕ, suc, ◌+◌, ◌^◌, ◌<◌, ◌≤◌, Bool, true, false, not, ◌&&◌, ◌||◌, ◌==◌, List, [], ◌∷◌, ◌++◌, length, refl, sym, ap, subst, ◌∙◌, arith, eqb-true, inl, inr, lit≤}
use Rattle.std.specs.Prelude.{nat_lt, nat_le, ℤ, pos, negsuc, slice_index}
use Rattle.std.specs.List.{list_all}
use Rattle.std.specs.Char.{is_ascii_digit, is_ascii_alphanumeric, is_ascii_alphabetic, is_ascii_uppercase, is_ascii_lowercase, to_ascii_lowercase}
use Rattle.std.specs.Int.{is_in_range}
use Rattle.std.specs.Fmt.{decimal, signed_decimal}
use Rattle.std.proofs.lemmas.Bool.{and_parts, cases_Bool, leb-true, le-leb}
use Rattle.std.proofs.lemmas.Bool.Decides.{nat_tests}
use Rattle.std.proofs.lemmas.Fmt.{digits_decimal}
use borrow.Author.Tests.{ltb-true}
use Rattle.page_base.specs.Name.{is_name_byte}
use Rattle.byte_fields.specs.Names.{is_low_byte, is_low_name}
use Rattle.plain_model.specs.Numbers.{fits_big}
use Rattle.reply_text.proofs.NumberLemmas.{own}
use Rattle.reply_text.proofs.Options.{both}
use Rattle.reply_text.proofs.PieceLaws.{is_plain, is_plain_byte}

-- bytes from 45 on are plain
pub high_plain : (b : ℕ) → 45 ≤ b → is_plain_byte b ≡ true
high_plain b h = let low : nat_le 42 b ≡ true = grind (arith, nat_tests, h) in let other : (b == 44) ≡ false = grind (arith, nat_tests, h) in both (nat_le 42 b) (not (b == 44)) low (ap not other)

pub either : (a b : Bool) → (a || b) ≡ true → (a ≡ true) ⊎ (b ≡ true)
either true b h = inl refl
either false b h = inr h

pub plain_between : (low high b : ℕ) → 45 ≤ low → (nat_le low b && nat_le b high) ≡ true → is_plain_byte b ≡ true
plain_between low high b least h = let first : low ≤ b = leb-true low b (and_parts (nat_le low b) (nat_le b high) h).0 in high_plain b (omega (arith, first, least))

pub digit_plain : (b : ℕ) → is_ascii_digit b ≡ true → is_plain_byte b ≡ true
digit_plain b h = plain_between 48 57 b (lit≤ tt) h

digits_plain : (ds : List ℕ) → list_all is_ascii_digit ds ≡ true → is_plain ds ≡ true
digits_plain [] h = refl
digits_plain (d ∷ ds) h = let here = and_parts (is_ascii_digit d) (list_all is_ascii_digit ds) h in both (is_plain_byte d) (is_plain ds) (digit_plain d here.0) (digits_plain ds here.1)

pub decimal_plain : (n : ℕ) → n < 2 ^ 64 → is_plain (decimal n) ≡ true
decimal_plain n small = digits_plain (decimal n) (digits_decimal own n small)

wide : 2 ^ 63 ≤ 2 ^ 64
wide = lit≤ tt

pub signed_plain : (z : ℤ) → fits_big z ≡ true → is_plain (signed_decimal z) ≡ true
signed_plain (pos n) h = decimal_plain n (omega (arith, ltb-true n (2 ^ 63) h, wide))
signed_plain (negsuc n) h = both (is_plain_byte 45) (is_plain (decimal (suc n))) refl (decimal_plain (suc n) (omega (arith, ltb-true n (2 ^ 63) h, lit_more)))
  where
    lit_more : 2 ^ 63 + 1 ≤ 2 ^ 64
    lit_more = lit≤ tt

name_byte_plain : (b : ℕ) → is_name_byte b ≡ true → is_plain_byte b ≡ true
name_byte_plain b h = elim (either (is_ascii_alphanumeric b) (b == 95) h) [
  | inl letter ↦ elim (either (is_in_range 48 57 b || is_in_range 65 90 b) (is_in_range 97 122 b) letter) [
    | inl upper ↦ elim (either (is_in_range 48 57 b) (is_in_range 65 90 b) upper) [
      | inl digit ↦ plain_between 48 57 b (lit≤ tt) digit
      | inr large ↦ plain_between 65 90 b (lit≤ tt) large
    ]
    | inr small ↦ plain_between 97 122 b (lit≤ tt) small
  ]
  | inr line ↦ (let same : b ≡ 95 = eqb-true b 95 line in subst (λ (c : ℕ). is_plain_byte c ≡ true) (sym same) refl)
]

low_plain : (bs : List ℕ) → list_all is_low_byte bs ≡ true → is_plain bs ≡ true
low_plain [] h = refl
low_plain (b ∷ bs) h =
    let here = and_parts (is_low_byte b) (list_all is_low_byte bs) h in
    both (is_plain_byte b) (is_plain bs) (name_byte_plain b (and_parts (is_name_byte b) (to_ascii_lowercase b == b) here.0).0) (low_plain bs here.1)

pub name_plain : (name : List ℕ) → is_low_name name ≡ true → is_plain name ≡ true
name_plain name h = low_plain name (and_parts (nat_lt 0 (length name) && nat_le (length name) 128 && not (is_ascii_digit (slice_index name 0))) (list_all is_low_byte name) h).1
