-- The field of each type: a number or a text with its length in front, which tells a value.
use Rattle.std.proofs.Common.{◌≡◌, ℕ, ◌^◌, ◌<◌, ◌≤◌, Bool, true, false, cond, ◌&&◌, List, [], length, refl, sym, ap, subst, ◌∙◌, arith, lit<, rules}
use Rattle.std.specs.Prelude.{ℤ, pos, nat_le, FitsSigned, Option, None, Some}
use Rattle.std.specs.Int.{w32, w64, cast_signed, cast_unsigned}
use Rattle.std.specs.List.{list_all}
use Rattle.std.proofs.Math.Facts.{sfits_to_z, Fits-of_lt}
use Rattle.std.proofs.lemmas.Int.{to_z-of_z, of_z-to_z}
use Rattle.std.proofs.lemmas.Bool.{and_parts}
use Rattle.std.proofs.lemmas.Bool.Decides.{nat_tests}
use Rattle.std.proofs.lemmas.Option.{none-some, same_Some}
use Rattle.std.proofs.lemmas.List.Sums.{AllPass-from_list_all, list_all-from_AllPass}
use Rattle.page_base.specs.declared.column.ColType.{ColType}
use Rattle.page_base.specs.declared.column.ColType.TheVariants as kinds
use Rattle.page_base.specs.declared.value.Value.{Value}
use Rattle.page_base.specs.declared.value.Value.TheVariants.{Null, Int, Big, Text}
use Rattle.page_base.proofs.FormatLemmas.{IsField}
use Rattle.byte_fields.specs.Numbers.{number}
use Rattle.byte_fields.specs.Fields.{sized}
use Rattle.byte_fields.specs.Reading.{number_at, sized_at}
use Rattle.byte_fields.proofs.FieldLemmas.{IsField-number, IsField-sized, field_through}
use Rattle.row_fmt.specs.Rows.{is_text_byte, IsText, IsOfKind, InRange}
use Rattle.row_fmt.specs.Reading.{int_at, big_at, is_text, text_value, text_at, value_at}

-- the bytes of a value that isn't NULL
abbrev pub field_of : Value → List ℕ
field_of Null = []
field_of (Int n) = number 4 (cast_unsigned w32 n)
field_of (Big n) = number 8 (cast_unsigned w64 n)
field_of (Text bytes) = sized bytes

-- a value of this type, as a program can hold it
abbrev pub IsCell : ColType → Value → Type 0
IsCell kind value = IsOfKind kind value × InRange value

-- ---- INT

abbrev int_number : Value → ℕ
int_number Null = 0
int_number (Int z) = cast_unsigned w32 z
int_number (Big z) = 0
int_number (Text bytes) = 0

abbrev int_of : ℕ → Option Value
int_of n = Some (Int (cast_signed w32 n))

int_takes : (n : ℕ) (v : Value) → n < 256 ^ 4 → int_of n ≡ Some v → IsCell kinds.Int v × (n ≡ int_number v)
int_takes n v fits e =
    let small : n < 2 ^ 32 = fits in
    let same : n ≡ cast_unsigned w32 (cast_signed w32 n) = sym (of_z-to_z w32 n small) in
    let is : Int (cast_signed w32 n) ≡ v = same_Some (Int (cast_signed w32 n)) v e in
    (subst (IsCell kinds.Int) is (tt, sfits_to_z (Fits-of_lt small)), same ∙ ap int_number is)

int_below : (z : ℤ) → FitsSigned w32 z → cast_unsigned w32 z < 2 ^ 32
int_below z h = grind (arith)

int_again : (v : Value) → IsCell kinds.Int v → (int_number v < 256 ^ 4) × (int_of (int_number v) ≡ Some v)
int_again Null h = absurd h.0
int_again (Big z) h = absurd h.0
int_again (Text bytes) h = absurd h.0
int_again (Int z) h = (int_below z h.1, ap (λ (x : ℤ). Some (Int x)) (to_z-of_z w32 z h.1))

int_field : (v : Value) → IsCell kinds.Int v → field_of v ≡ number 4 (int_number v)
int_field Null h = absurd h.0
int_field (Big z) h = absurd h.0
int_field (Text bytes) h = absurd h.0
int_field (Int z) h = refl

zero_fits : FitsSigned w32 (pos 0)
zero_fits = search rules

IsField-int : IsField (IsCell kinds.Int) field_of int_at
IsField-int = field_through (λ n. n < 256 ^ 4) (number 4) (number_at 4) (IsCell kinds.Int) field_of int_of int_number (IsField-number 4) (record { some = Int (pos 0); some_fits = (tt, zero_fits); takes = int_takes; again = int_again; field_is = int_field })

-- ---- BIGINT

abbrev big_number : Value → ℕ
big_number Null = 0
big_number (Int z) = 0
big_number (Big z) = cast_unsigned w64 z
big_number (Text bytes) = 0

abbrev big_of : ℕ → Option Value
big_of n = Some (Big (cast_signed w64 n))

big_takes : (n : ℕ) (v : Value) → n < 256 ^ 8 → big_of n ≡ Some v → IsCell kinds.Big v × (n ≡ big_number v)
big_takes n v fits e =
    let small : n < 2 ^ 64 = fits in
    let same : n ≡ cast_unsigned w64 (cast_signed w64 n) = sym (of_z-to_z w64 n small) in
    let is : Big (cast_signed w64 n) ≡ v = same_Some (Big (cast_signed w64 n)) v e in
    (subst (IsCell kinds.Big) is (tt, sfits_to_z (Fits-of_lt small)), same ∙ ap big_number is)

big_below : (z : ℤ) → FitsSigned w64 z → cast_unsigned w64 z < 2 ^ 64
big_below z h = grind (arith)

big_again : (v : Value) → IsCell kinds.Big v → (big_number v < 256 ^ 8) × (big_of (big_number v) ≡ Some v)
big_again Null h = absurd h.0
big_again (Int z) h = absurd h.0
big_again (Text bytes) h = absurd h.0
big_again (Big z) h = (big_below z h.1, ap (λ (x : ℤ). Some (Big x)) (to_z-of_z w64 z h.1))

big_field : (v : Value) → IsCell kinds.Big v → field_of v ≡ number 8 (big_number v)
big_field Null h = absurd h.0
big_field (Int z) h = absurd h.0
big_field (Text bytes) h = absurd h.0
big_field (Big z) h = refl

zero_fits_big : FitsSigned w64 (pos 0)
zero_fits_big = search rules

IsField-big : IsField (IsCell kinds.Big) field_of big_at
IsField-big = field_through (λ n. n < 256 ^ 8) (number 8) (number_at 8) (IsCell kinds.Big) field_of big_of big_number (IsField-number 8) (record { some = Big (pos 0); some_fits = (tt, zero_fits_big); takes = big_takes; again = big_again; field_is = big_field })

-- ---- VARCHAR

pub IsText-true : (max : ℕ) (text : List ℕ) → is_text max text ≡ true → IsText max text
IsText-true max text h =
    let parts = and_parts (nat_le (length text) max) (list_all is_text_byte text) h in
    record { short = grind (arith, nat_tests, parts.0); each = AllPass-from_list_all is_text_byte text parts.1 }

pub IsText-back : (max : ℕ) (text : List ℕ) → IsText max text → is_text max text ≡ true
IsText-back max text h =
    let len : length text ≤ max = h.short in
    let short : nat_le (length text) max ≡ true = grind (arith, nat_tests) in
    (λ i. short i && list_all is_text_byte text) ∙ list_all-from_AllPass is_text_byte text h.each

abbrev text_in : Value → List ℕ
text_in Null = []
text_in (Int z) = []
text_in (Big z) = []
text_in (Text bytes) = bytes

-- what passes a test tells a value
told_by : (b : Bool) (v w : Value) → cond b (Some v) None ≡ Some w → (b ≡ true) × (v ≡ w)
told_by true v w e = (refl, same_Some v w e)
told_by false v w e = absurd (none-some w e)

module _ (max : ℕ) where
  text_takes : (text : List ℕ) (v : Value) → length text < 2 ^ 16 → text_value max text ≡ Some v → IsCell (kinds.Text max) v × (text ≡ text_in v)
  text_takes text v fits e =
      let told = told_by (is_text max text) (Text text) v e in
      (subst (IsCell (kinds.Text max)) told.1 (IsText-true max text told.0, fits), ap text_in told.1)

  text_again : (v : Value) → IsCell (kinds.Text max) v → (length (text_in v) < 2 ^ 16) × (text_value max (text_in v) ≡ Some v)
  text_again Null h = absurd h.0
  text_again (Int z) h = absurd h.0
  text_again (Big z) h = absurd h.0
  text_again (Text text) h = (h.1, ap (λ (b : Bool). cond b (Some (Text text)) None) (IsText-back max text h.0))

  text_field : (v : Value) → IsCell (kinds.Text max) v → field_of v ≡ sized (text_in v)
  text_field Null h = absurd h.0
  text_field (Int z) h = absurd h.0
  text_field (Big z) h = absurd h.0
  text_field (Text text) h = refl

  no_text : IsText max []
  no_text = record { short = omega arith; each = AllPass-from_list_all is_text_byte [] refl }

  IsField-text : IsField (IsCell (kinds.Text max)) field_of (text_at max)
  IsField-text = field_through (λ (text : List ℕ). length text < 2 ^ 16) sized sized_at (IsCell (kinds.Text max)) field_of (text_value max) text_in IsField-sized (record { some = Text []; some_fits = (no_text, lit< tt); takes = text_takes; again = text_again; field_is = text_field })

pub IsField-value : (kind : ColType) → IsField (IsCell kind) field_of (value_at kind)
IsField-value kinds.Int = IsField-int
IsField-value kinds.Big = IsField-big
IsField-value (kinds.Text max) = IsField-text max
