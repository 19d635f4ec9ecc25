-- Writing a name in lower case into its array, byte by byte.
use Rattle.std.proofs.Common.{◌≡◌, ℕ, ◌+◌, ◌-◌, ◌<◌, ◌≤◌, List, [], ◌∷◌, length, get_or, take, drop, set, map, replicate, refl, ap, sym, ◌∙◌, arith, length-append}
use Rattle.std.specs.Prelude.{slice_index}
use Rattle.std.proofs.Common.{true, false, length-set}
use Rattle.std.proofs.lemmas.List.{length-map, length-replicate, get_or-map}
use Rattle.std.specs.Char.{to_ascii_lowercase, is_ascii_digit}
use Rattle.std.proofs.lemmas.Bool.Decides.{nat_tests}
use Rattle.std.proofs.lemmas.Str.Ascii.{lowercase-lowercase}
use Rattle.std.proofs.lemmas.List.Elements.{All-map, All-weaker}
use Rattle.std.proofs.Math.Seq.{take-append_seam}
use Rattle.page_base.specs.Name.{IsName, is_name_byte, padded}
use Rattle.page_base.specs.Stored.{IsStoredName}
use Rattle.std.proofs.lemmas.List.{take_more_set, map_more, drop-set-lt, drop-replicate, drop-drop}

-- one byte more in front, and one zero less behind
pub record More (bs name : List ℕ) (i : ℕ) : Type 0 where
  pub long : length name ≡ 128
  pub done : take i name ≡ map to_ascii_lowercase (take i bs)
  pub zeros : drop i name ≡ replicate (128 - i) 0

pub lowered_more : (bs name : List ℕ) (i y : ℕ) → i < 128 → i < length bs → y ≡ to_ascii_lowercase (get_or bs i 0) → More bs name i → More bs (set name i y) (i + 1)
lowered_more bs name i y room in' is h =
    let here : i < length name = omega (arith, h.long) in
    record {
      long = length-set name i y ∙ h.long;
      done = rw (take_more_set name i y here, map_more to_ascii_lowercase bs i 0 in', is, h.done) refl;
      zeros = drop-set-lt (i + 1) name i y (omega arith) ∙ sym (drop-drop 1 i name) ∙ ap (drop 1) h.zeros ∙ drop-replicate 1 (128 - i) 0
          ∙ (let less : (128 - i) - 1 ≡ 128 - (i + 1) = omega arith in ap (λ k. replicate k 0) less);
    }

-- a letter, a digit or `_` stays one in lower case
pub name_byte-lower : (b : ℕ) → is_name_byte b ≡ true → is_name_byte (to_ascii_lowercase b) ≡ true
name_byte-lower b h = grind (arith, nat_tests)

pub digit-lower : (b : ℕ) → is_ascii_digit b ≡ false → is_ascii_digit (to_ascii_lowercase b) ≡ false
digit-lower b h = grind (arith, nat_tests)

pub name-lower : (bs : List ℕ) → IsName bs → IsName (map to_ascii_lowercase bs)
name-lower bs h = record {
  some = grind (arith, h.some, length-map {A = ℕ} {B = ℕ});
  short = grind (arith, h.short, length-map {A = ℕ} {B = ℕ});
  starts = rw (get_or-map to_ascii_lowercase bs 0 0 0 h.some) (digit-lower (slice_index bs 0) h.starts);
  each = All-map (λ c. is_name_byte c ≡ true) to_ascii_lowercase bs (All-weaker (λ c. is_name_byte c ≡ true) (λ c. is_name_byte (to_ascii_lowercase c) ≡ true) name_byte-lower bs h.each);
}

-- lower case once more changes nothing
low-low : (bs : List ℕ) → map to_ascii_lowercase (map to_ascii_lowercase bs) ≡ map to_ascii_lowercase bs
low-low [] = refl
low-low (b ∷ bs) = λ i. lowercase-lowercase b i ∷ low-low bs i

pub stored : (bs : List ℕ) → length bs ≤ 128 → IsName bs → IsStoredName (padded (map to_ascii_lowercase bs)) (length bs)
stored bs short name =
    let low : List ℕ = map to_ascii_lowercase bs in
    let same : length bs ≡ length low = sym (length-map bs to_ascii_lowercase) in
    let front : take (length bs) (padded low) ≡ low = ap (λ n. take n (padded low)) same ∙ take-append_seam low (replicate (128 - length low) 0) in
    record {
      stored = record {
        long = length-append {A = ℕ} low (replicate (128 - length low) 0) ∙ (let r : length {A = ℕ} (replicate (128 - length low) 0) ≡ 128 - length low = length-replicate (128 - length low) 0 in omega (arith, r, same));
        within = short;
        zeros = ap padded (sym front);
      };
      name = rw front (record { name = name-lower bs name; low = low-low bs });
    }
