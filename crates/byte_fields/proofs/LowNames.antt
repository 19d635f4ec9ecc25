-- The test of a name says what the fact says.
use Rattle.std.proofs.Common.{◌≡◌, ℕ, Bool, true, false, cond, not, ◌&&◌, ◌==◌, List, [], ◌∷◌, length, map, refl, sym, ap, ◌∙◌, arith, inl, inr, eq-eqb, eqb-true}
use Rattle.std.specs.Prelude.{nat_lt, nat_le, slice_index, Option, None, Some}
use Rattle.std.specs.Option.{SomeIff}
use Rattle.std.specs.List.{list_all, AllByRecursion}
use Rattle.std.specs.Char.{is_ascii_digit, to_ascii_lowercase}
use Rattle.std.proofs.lemmas.Bool.{and_parts, cases_Bool}
use Rattle.std.proofs.lemmas.Bool.Decides.{nat_tests}
use Rattle.std.proofs.lemmas.List.Elements.{All-from_recursion, recursion_from_All}
use Rattle.page_base.specs.Name.{IsLowName, is_name_byte}
use Rattle.byte_fields.specs.Names.{is_low_byte, is_low_name, low_name}

both_true : (a b : Bool) → a ≡ true → b ≡ true → (a && b) ≡ true
both_true a b p q = ap (λ x. x && b) p ∙ q

-- each byte is one of a name and in lower case
low_bytes : (bs : List ℕ) → list_all is_low_byte bs ≡ true → AllByRecursion (λ c. is_name_byte c ≡ true) bs × (map to_ascii_lowercase bs ≡ bs)
low_bytes [] h = (tt, refl)
low_bytes (b ∷ bs) h =
    let parts = and_parts (is_low_byte b) (list_all is_low_byte bs) h in
    let here = and_parts (is_name_byte b) (to_ascii_lowercase b == b) parts.0 in
    let later = low_bytes bs parts.1 in
    let same = eqb-true (to_ascii_lowercase b) b here.1 in
    ((here.0, later.0), λ i. same i ∷ later.1 i)

low_bytes_back : (bs : List ℕ) → AllByRecursion (λ c. is_name_byte c ≡ true) bs → map to_ascii_lowercase bs ≡ bs → list_all is_low_byte bs ≡ true
low_bytes_back [] each low = refl
low_bytes_back (b ∷ bs) each low =
    let head : to_ascii_lowercase b ≡ b = cc in
    let tail : map to_ascii_lowercase bs ≡ bs = cc in
    both_true (is_low_byte b) (list_all is_low_byte bs) (both_true (is_name_byte b) (to_ascii_lowercase b == b) each.0 (eq-eqb (to_ascii_lowercase b) b head)) (low_bytes_back bs each.1 tail)

not_false : (b : Bool) → not b ≡ true → b ≡ false
not_false true h = cc
not_false false h = refl

pub IsLowName-true : (bs : List ℕ) → is_low_name bs ≡ true → IsLowName bs
IsLowName-true bs h =
    let last = and_parts (nat_lt 0 (length bs) && nat_le (length bs) 128 && not (is_ascii_digit (slice_index bs 0))) (list_all is_low_byte bs) h in
    let third = and_parts (nat_lt 0 (length bs) && nat_le (length bs) 128) (not (is_ascii_digit (slice_index bs 0))) last.0 in
    let two = and_parts (nat_lt 0 (length bs)) (nat_le (length bs) 128) third.0 in
    let bytes = low_bytes bs last.1 in
    record {
      name = record {
        some = grind (arith, nat_tests, two.0);
        short = grind (arith, nat_tests, two.1);
        starts = not_false (is_ascii_digit (slice_index bs 0)) third.1;
        each = All-from_recursion (λ c. is_name_byte c ≡ true) bs bytes.0;
      };
      low = bytes.1;
    }

pub IsLowName-back : (bs : List ℕ) → IsLowName bs → is_low_name bs ≡ true
IsLowName-back bs h =
    let first : nat_lt 0 (length bs) ≡ true = grind (arith, nat_tests, h.name.some) in
    let second : nat_le (length bs) 128 ≡ true = grind (arith, nat_tests, h.name.short) in
    both_true _ (list_all is_low_byte bs)
    (both_true _ (not (is_ascii_digit (slice_index bs 0))) (both_true _ (nat_le (length bs) 128) first second) (ap not h.name.starts))
    (low_bytes_back bs (recursion_from_All (λ c. is_name_byte c ≡ true) bs h.name.each) h.low)

-- the name that bytes are, by the fact and by the test
pub kept_is : (bs : List ℕ) (o : Option (List ℕ)) → SomeIff o (IsLowName bs) bs → o ≡ low_name bs
kept_is bs None h = elim (cases_Bool (is_low_name bs)) [
  | inl yes_it_is ↦ absurd (h (IsLowName-true bs yes_it_is))
  | inr isnt ↦ sym (ap (λ (b : Bool). cond b (Some bs) None) isnt)
]
kept_is bs (Some name) h = ap Some h.1 ∙ sym (ap (λ (b : Bool). cond b (Some bs) None) (IsLowName-back bs h.0))
