-- A number that was written reads back, and bytes that were read as a number are that number's.
use Rattle.std.proofs.Common.{◌≡◌, ℕ, zero, suc, ◌+◌, ◌*◌, ◌^◌, ◌/◌, ◌%◌, ◌<◌, ◌≤◌, List, [], ◌∷◌, ◌++◌, length, take, refl, sym, ap, ◌∙◌, arith}
use Rattle.std.proofs.Math.Nat.{div-div-eq-div-mul, div-one, pow-succ'}
use Rattle.std.specs.Int.{byte_at, bytes_low_first}
use Rattle.byteorder.specs.Endian.{little_from}
use Rattle.byteorder.specs.Numbers.{little_from-cons, little_number-reads_back, little_from-lt, length-bytes_low_first}
use Rattle.page_base.proofs.FormatLemmas.{IsBytes}
use Rattle.byte_fields.specs.Numbers.{number, number_in}

byte_at-pow : (k x : ℕ) → byte_at k x ≡ x / 256 ^ k % 256
byte_at-pow zero x = ap (λ (y : ℕ). y % 256) (sym (div-one x))
byte_at-pow (suc k) x = refl

-- a number without its lowest byte
without_lowest : (b r : ℕ) → b < 256 → (b + 256 * r) / 256 ≡ r
without_lowest b r lt = omega arith

-- the higher bytes of a number are those of the rest of it
later_bytes : (i k b r : ℕ) → b < 256 → bytes_low_first (suc i) k (b + 256 * r) ≡ bytes_low_first i k r
later_bytes i zero b r lt = refl
later_bytes i (suc k) b r lt =
    let shift : (b + 256 * r) / 256 ^ suc i ≡ r / 256 ^ i =
    ap (λ (p : ℕ). (b + 256 * r) / p) (pow-succ' 256 i) ∙ sym (div-div-eq-div-mul (b + 256 * r) 256 (256 ^ i)) ∙ ap (λ (x : ℕ). x / 256 ^ i) (without_lowest b r lt) in
    let here : (b + 256 * r) / 256 ^ suc i % 256 ≡ byte_at i r = ap (λ (x : ℕ). x % 256) shift ∙ sym (byte_at-pow i r) in
    let later = later_bytes (suc i) k b r lt in
    λ t. here t ∷ later t

-- bytes that were read as a number are that number's
pub number-number_in : (n : ℕ) (bytes : List ℕ) → n ≤ length bytes → IsBytes bytes → number n (number_in n bytes) ≡ take n bytes
unfolding number number_in
number-number_in zero bytes le h = refl
number-number_in (suc n) [] le h = absurd (omega arith)
number-number_in (suc n) (b ∷ bytes) le h =
    let lt : b < 256 = h 0 in
    let rest = ap (λ (r : ℕ). b + 256 * r) (little_from-cons 0 n b bytes) in
    let lowest : (b + 256 * little_from 0 n bytes) % 256 ≡ b = omega arith in
    let later = later_bytes 0 n b (little_from 0 n bytes) lt ∙ number-number_in n bytes (omega arith) (λ i. h (suc i)) in
    ap (λ (x : ℕ). bytes_low_first 0 (suc n) x) rest ∙ (λ t. lowest t ∷ later t)

pub number_in-number : (n x : ℕ) (rest : List ℕ) → x < 256 ^ n → number_in n (number n x ++ rest) ≡ x
unfolding number number_in
number_in-number n x rest lt = little_number-reads_back n x rest lt

pub number_in-lt : (n : ℕ) (bytes : List ℕ) → IsBytes bytes → number_in n bytes < 256 ^ n
unfolding number_in
number_in-lt n bytes h = little_from-lt 0 n bytes h

pub length-number : (n x : ℕ) → length (number n x) ≡ n
unfolding number
length-number n x = length-bytes_low_first 0 n x
