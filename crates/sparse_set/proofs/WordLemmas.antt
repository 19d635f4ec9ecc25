-- Bits that are set, and words that are the one spelling of some marks.
use Rattle.std.proofs.Common.{◌≡◌, ◌≢◌, ℕ, zero, suc, ◌<◌, ◌≤◌, ◌*◌, ◌+◌, ◌-◌, ◌^◌, ◌%◌, ◌/◌, ◌==◌, ◌||◌, Bool, true, false, cond, List, length, replicate, slice_set, get_or, w64, refl, ap, sym, subst, ◌∙◌, inl, inr, arith, get_or-set_same, get_or-set_other, eq-eqb, ne_eqb}
use Rattle.std.proofs.lemmas.Bool.{cases_eq, cases_lt}
use Rattle.std.proofs.lemmas.List.{get_or_past, get_or-replicate, length-replicate}
use Rattle.std.proofs.lemmas.List.FromFn.{fill_by_all, get_or-map-range_with_len, length-map-range_with_len}
use Rattle.std.proofs.Math.ListN.{length-set}
use Rattle.std.proofs.Math.Nat.{two-pow-succ}
use Rattle.std.specs.Prelude.{slice_index}
use Rattle.std.specs.Int.{bit_at}
use Rattle.std.specs.Int.Bits.{bit_or}
use Rattle.std.proofs.lemmas.Nat.Bits.{bit_at_set_same, bit_at_set_other, bit_at_cat_low, bit_at_cat_high, bit_at-zero, bit_at-lt, same_from_bits_below}
use Rattle.sparse_set.specs.Groups.{bits_in}
use Rattle.sparse_set.specs.Words.{has, bits_of, number_of, word_of, words_of, IsFileMap}

module _ (words : List ℕ) (page : ℕ) (h : page < 64 * length words) where
  abbrev word : ℕ
  word = bit_or (slice_index words (page / 64)) (1 * 2 ^ (page % 64) % 2 ^ 64)

  within : page / 64 < length words
  within = omega (arith, h)

  here : slice_index (slice_set words (page / 64) word) (page / 64) ≡ word
  here = get_or-set_same words (page / 64) word 0 within

  same : has (slice_set words (page / 64) word) page ≡ true
  unfolding has
  same = ap (λ n. bit_at n (page % 64) == 1) here ∙ ap (λ n. n == 1) (bit_at_set_same w64 (slice_index words (page / 64)) (page % 64) (omega arith))

  other : (q : ℕ) → q ≢ page → has (slice_set words (page / 64) word) q ≡ has words q
  unfolding has
  other q ne = elim (cases_eq (q / 64) (page / 64)) [
    | inl e ↦ let apart : q % 64 ≢ page % 64 = λ f. ne (omega (arith, e, f)) in
        ap (λ i. bit_at (slice_index (slice_set words (page / 64) word) i) (q % 64) == 1) e ∙ ap (λ n. bit_at n (q % 64) == 1) here
        ∙ ap (λ n. n == 1) (bit_at_set_other w64 (slice_index words (page / 64)) (page % 64) (omega arith) (q % 64) apart)
        ∙ sym (ap (λ i. bit_at (slice_index words i) (q % 64) == 1) e)
    | inr f ↦ ap (λ n. bit_at n (q % 64) == 1) (get_or-set_other words (page / 64) (q / 64) word 0 f)
  ]

-- the bit that is set, and the others
pub has_put : (words : List ℕ) (page q : ℕ) → page < 64 * length words → has (slice_set words (page / 64) (bit_or (slice_index words (page / 64)) (1 * 2 ^ (page % 64) % 2 ^ 64))) q ≡ (q == page || has words q)
has_put words page q h = elim (cases_eq q page) [
  | inl e ↦ ap (has (slice_set words (page / 64) (word words page h))) e ∙ same words page h ∙ sym (ap (λ b. b || has words q) (eq-eqb q page e))
  | inr ne ↦ other words page h q ne ∙ sym (ap (λ b. b || has words q) (ne_eqb q page ne))
]

pub length_bits : (pages : ℕ) (words : List ℕ) → length (bits_of pages words) ≡ pages
unfolding bits_of
length_bits pages words = length-map-range_with_len (has words) 0 pages

-- the mark of a page is its bit
pub marks_at : (pages : ℕ) (words : List ℕ) (page : ℕ) → IsFileMap pages words → get_or (bits_of pages words) page false ≡ has words page
unfolding bits_of
marks_at pages words page is = elim (cases_lt page pages) [
  | inl lt ↦ get_or-map-range_with_len (has words) 0 pages page page false lt (omega arith)
  | inr past ↦ get_or_past (bits_of pages words) page false (omega (arith, length_bits pages words)) ∙ sym (is.clear page past)
]

-- marks that are the bits, one by one
pub bits_are : (pages : ℕ) (words : List ℕ) (marks : List Bool) → length marks ≡ pages → ((page : ℕ) → page < pages → get_or marks page false ≡ has words page) → marks ≡ bits_of pages words
unfolding bits_of
bits_are pages words marks long each = fill_by_all (has words) marks pages false long each

module _ (pages : ℕ) (old new : List ℕ) (page : ℕ) (h : page < pages) (put : (q : ℕ) → has new q ≡ (q == page || has old q)) (is : IsFileMap pages old) where
  mark : (q : ℕ) → q < pages → get_or (slice_set (bits_of pages old) page true) q false ≡ has new q
  mark q lt = elim (cases_eq q page) [
    | inl e ↦
        ap (λ i. get_or (slice_set (bits_of pages old) page true) i false) e
        ∙ get_or-set_same (bits_of pages old) page true false (omega (arith, h, length_bits pages old))
        ∙ sym (put q ∙ ap (λ b. b || has old q) (eq-eqb q page e))
    | inr ne ↦
        get_or-set_other (bits_of pages old) page q true false ne
        ∙ marks_at pages old q is
        ∙ sym (put q ∙ ap (λ b. b || has old q) (ne_eqb q page ne))
  ]

  -- a bit that is set is a mark that is set
  pub bits_put : bits_of pages new ≡ slice_set (bits_of pages old) page true
  bits_put = sym (bits_are pages new (slice_set (bits_of pages old) page true) (length-set (bits_of pages old) page true ∙ length_bits pages old) mark)

  pub map_put : length new ≡ length old → IsFileMap pages new
  map_put long = record {
    long = long ∙ is.long;
    clear = λ q past. put q ∙ ap (λ b. b || has old q) (ne_eqb q page (λ e. absurd (omega (arith, h, past, e)))) ∙ is.clear q past;
  }

-- a list of one value, as long as it goes and past its end
pub same_at : {X : Type 0} (n i : ℕ) (x : X) → get_or (replicate n x) i x ≡ x
same_at n i x = elim (cases_lt i n) [
  | inl lt ↦ get_or-replicate n i x x lt
  | inr past ↦ get_or_past (replicate n x) i x (subst (λ k. k ≤ i) (sym (length-replicate n x)) past)
]

no_bit : (n q : ℕ) → has (replicate n 0) q ≡ false
unfolding has
no_bit n q = ap (λ w. bit_at w (q % 64) == 1) (same_at {X = ℕ} n (q / 64) 0) ∙ ap (λ b. b == 1) (bit_at-zero (q % 64))

-- words of zeros mark no page
pub no_bits : (pages n : ℕ) → bits_of pages (replicate n 0) ≡ replicate pages false
no_bits pages n = sym (bits_are pages (replicate n 0) (replicate pages false) (length-replicate pages false) (λ q lt. get_or-replicate pages q false false lt ∙ sym (no_bit n q)))

pub no_map : (pages n : ℕ) → n ≡ (pages + 63) / 64 → IsFileMap pages (replicate n 0)
no_map pages n e = record { long = length-replicate n 0 ∙ e; clear = λ q past. no_bit n q }

-- a number of bits
number_below : (bits : ℕ → Bool) (n : ℕ) → number_of bits n < 2 ^ n
number_below bits zero = omega arith
number_below bits (suc n) = elim (bits n) as (λ b. cond b 1 0 * 2 ^ n + number_of bits n < 2 ^ suc n) [
  | true ↦ let h = number_below bits n in let e = two-pow-succ n in omega (arith, h, e)
  | false ↦ let h = number_below bits n in let e = two-pow-succ n in omega (arith, h, e)
]

one_bit : (b : Bool) → bit_at (cond b 1 0) 0 ≡ cond b 1 0
one_bit true = refl
one_bit false = refl

number_bit : (bits : ℕ → Bool) (n i : ℕ) → i < n → bit_at (number_of bits n) i ≡ cond (bits i) 1 0
number_bit bits zero i h = absurd (omega (arith, h))
number_bit bits (suc n) i h = elim (cases_lt i n) [
  | inl lt ↦ bit_at_cat_low (cond (bits n) 1 0) n (number_of bits n) i lt ∙ number_bit bits n i lt
  | inr past ↦
      let e : i ≡ n = omega (arith, h, past) in
      let none : i - n ≡ 0 = omega (arith, e) in
      bit_at_cat_high (cond (bits n) 1 0) n (number_of bits n) i (number_below bits n) past
      ∙ ap (λ k. bit_at (cond (bits n) 1 0) k) none
      ∙ one_bit (bits n)
      ∙ ap (λ k. cond (bits k) 1 0) (sym e)
]

small_bit : (n i : ℕ) → bit_at n i ≡ cond (bit_at n i == 1) 1 0
small_bit n i = small (bit_at n i) (bit_at-lt n i)
  where
    small : (b : ℕ) → b < 2 → b ≡ cond (b == 1) 1 0
    small zero h = refl
    small (suc zero) h = refl
    small (suc (suc n)) h = absurd (omega (arith, h))

word_below : (marks : List Bool) (k : ℕ) → word_of marks k < 2 ^ 64
unfolding word_of
word_below marks k = number_below (λ i. get_or marks (64 * k + i) false) 64

-- bit i of word k is page 64 k + i
bit_of_word : (marks : List Bool) (k i : ℕ) → i < 64 → bit_at (word_of marks k) i ≡ cond (get_or marks (64 * k + i) false) 1 0
unfolding word_of
bit_of_word marks k i h = number_bit (λ j. get_or marks (64 * k + j) false) 64 i h

-- bit i of word k, as the mark of a page and as the word's own
pub word_bit : (words : List ℕ) (k i : ℕ) → i < 64 → has words (64 * k + i) ≡ bits_in (get_or words k 0) i
unfolding has bits_in
word_bit words k i h =
    let page : (64 * k + i) / 64 ≡ k = omega (arith, h) in
    let place : (64 * k + i) % 64 ≡ i = omega (arith, h) in
    ap (λ j. bit_at (get_or words j 0) ((64 * k + i) % 64) == 1) page ∙ ap (λ j. bit_at (get_or words k 0) j == 1) place

bit_has : (words : List ℕ) (k i : ℕ) → i < 64 → bit_at (get_or words k 0) i ≡ cond (has words (64 * k + i)) 1 0
unfolding bits_in
bit_has words k i h = small_bit (get_or words k 0) i ∙ ap (λ b. cond b 1 0) (sym (word_bit words k i h))

-- words of a map are the words of its marks
pub words_are : (pages : ℕ) (words : List ℕ) → IsFileMap pages words → ((k : ℕ) → get_or words k 0 < 2 ^ 64) → words ≡ words_of (bits_of pages words)
words_are pages words is below = fill_by_all (word_of (bits_of pages words)) words ((length (bits_of pages words) + 63) / 64) 0 long each
  where
    long : length words ≡ (length (bits_of pages words) + 63) / 64
    long = is.long ∙ ap (λ n. (n + 63) / 64) (sym (length_bits pages words))

    bit : (k i : ℕ) → i < 64 → bit_at (get_or words k 0) i ≡ bit_at (word_of (bits_of pages words) k) i
    bit k i h = bit_has words k i h ∙ ap (λ b. cond b 1 0) (sym (marks_at pages words (64 * k + i) is)) ∙ sym (bit_of_word (bits_of pages words) k i h)

    each : (k : ℕ) → k < (length (bits_of pages words) + 63) / 64 → get_or words k 0 ≡ word_of (bits_of pages words) k
    each k h = same_from_bits_below 64 (get_or words k 0) (word_of (bits_of pages words) k) (below k) (word_below (bits_of pages words) k) (bit k)
