-- Each field of the log: a kind is told by a byte, a slot by a number, and what a slot held by a text.
use Rattle.std.proofs.Common.{◌≡◌, ◌<◌, ◌≤◌, ◌^◌, ℕ, Bool, true, false, cond, List, [], ◌∷◌, length, refl, ap, subst, ◌∙◌, ◌==◌, arith, eqb-true, lit<, lit≤}
use Rattle.std.specs.Prelude.{nat_lt, nat_le, None, Some}
use Rattle.std.proofs.lemmas.Bool.{ltb-false, le-ltb}
use Rattle.std.proofs.lemmas.Bool.Decides.{nat_tests}
use Rattle.std.proofs.lemmas.Option.{none-some, same_Some}
use Rattle.page_base.proofs.FormatLemmas.{IsField}
use Rattle.byte_fields.specs.Numbers.{number}
use Rattle.byte_fields.specs.Fields.{sized}
use Rattle.byte_fields.specs.Reading.{byte_at, number_at, sized_at}
use Rattle.byte_fields.proofs.FieldLemmas.{byte, IsField-byte, IsField-number, IsField-sized, field_through}
use Rattle.rec_log.specs.declared.reader.Kind.{Kind}
use Rattle.rec_log.specs.declared.reader.Kind.TheVariants as kinds
use Rattle.rec_log.specs.Reading.{kind_of, kind_at, slot_of, slot_at, held, text_at}

-- what passes a test tells itself
kept_by : {X : Type 0} (b : Bool) (x y : X) → cond b None (Some x) ≡ Some y → (b ≡ false) × (x ≡ y)
kept_by true x y e = absurd (none-some y e)
kept_by false x y e = (refl, same_Some x y e)

-- ---- a slot's number

slot_is : (n m : ℕ) → slot_of n ≡ Some m → (m < 4048) × (n ≡ m)
slot_is n m e =
    let k = kept_by (nat_le 4048 n) n m e in
    let small : n < 4048 = grind (arith, nat_tests, k.0) in
    (subst (λ (x : ℕ). x < 4048) k.1 small, k.1)

slot_again : (n : ℕ) → n < 4048 → slot_of n ≡ Some n
slot_again n lt =
    let small : nat_le 4048 n ≡ false = grind (arith, nat_tests) in
    ap (λ (b : Bool). cond b None (Some n)) small

pub IsField-slot : IsField (λ n. n < 4048) (number 2) slot_at
IsField-slot = field_through (λ n. n < 256 ^ 2) (number 2) (number_at 2) (λ n. n < 4048) (number 2) slot_of (λ n. n) (IsField-number 2) (record {
  some = 0;
  some_fits = lit< tt;
  takes = λ n m fits e. slot_is n m e;
  again = λ n lt. (omega arith, slot_again n lt);
  field_is = λ n lt. refl;
})

-- ---- the kind of an entry

abbrev pub kind_number : Kind → ℕ
kind_number kinds.Commit = 1
kind_number kinds.Revert = 2

abbrev pub kind_byte : Kind → List ℕ
kind_byte kind = kind_number kind ∷ []

abbrev pub AnyKind : Kind → Type 0
AnyKind kind = Unit {0}

kind_is : (b : ℕ) (kind : Kind) → kind_of b ≡ Some kind → b ≡ kind_number kind
kind_is b kind e = chosen (b == 1) (b == 2) refl refl e
  where
    chosen : (one two : Bool) → (b == 1) ≡ one → (b == 2) ≡ two → cond one (Some kinds.Commit) (cond two (Some kinds.Revert) None) ≡ Some kind → b ≡ kind_number kind
    chosen true two is _ e = eqb-true b 1 is ∙ ap kind_number (same_Some kinds.Commit kind e)
    chosen false true _ is e = eqb-true b 2 is ∙ ap kind_number (same_Some kinds.Revert kind e)
    chosen false false _ _ e = absurd (none-some kind e)

kind_again : (kind : Kind) → (kind_number kind < 256) × (kind_of (kind_number kind) ≡ Some kind)
kind_again kinds.Commit = (lit< tt, refl)
kind_again kinds.Revert = (lit< tt, refl)

pub IsField-kind : IsField AnyKind kind_byte kind_at
IsField-kind = field_through (λ b. b < 256) byte byte_at AnyKind kind_byte kind_of kind_number IsField-byte (record {
  some = kinds.Commit;
  some_fits = tt;
  takes = λ b kind fits e. (tt, kind_is b kind e);
  again = λ kind fits. kind_again kind;
  field_is = λ kind fits. refl;
})

-- ---- a text

held_is : (text other : List ℕ) → held text ≡ Some other → (length other ≤ 8094) × (text ≡ other)
held_is text other e =
    let k = kept_by (nat_lt 8094 (length text)) text other e in
    (subst (λ (t : List ℕ). length t ≤ 8094) k.1 (ltb-false 8094 (length text) k.0), k.1)

pub IsField-text : IsField (λ (text : List ℕ). length text ≤ 8094) sized text_at
IsField-text = field_through (λ (text : List ℕ). length text < 2 ^ 16) sized sized_at (λ (text : List ℕ). length text ≤ 8094) sized held (λ text. text) IsField-sized (record {
  some = [];
  some_fits = lit≤ tt;
  takes = λ text other fits e. held_is text other e;
  again = λ text le. (omega arith, ap (λ (b : Bool). cond b None (Some text)) (le-ltb 8094 (length text) le));
  field_is = λ text le. refl;
})
