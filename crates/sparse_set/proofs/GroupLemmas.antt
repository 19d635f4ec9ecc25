-- Groups of eight pages, and the bytes of words.
use Rattle.std.proofs.Common.{◌≡◌, ℕ, zero, suc, ◌<◌, ◌≤◌, ◌-◌, ◌*◌, ◌+◌, ◌^◌, ◌%◌, ◌/◌, ◌==◌, ◌||◌, Bool, true, false, cond, ltb, List, length, get_or, refl, ap, sym, ◌∙◌, arith}
use Rattle.std.proofs.lemmas.Nat.{mod-pow-add, shr-shr, pow_pos}
use Rattle.std.proofs.lemmas.Bool.{lt-ltb}
use Rattle.std.proofs.lemmas.Nat.Bits.{bit_at-lt}
use Rattle.std.specs.Int.{bit_at}
use Rattle.sparse_set.specs.Words.{has, bits_of, IsFileMap}
use Rattle.sparse_set.specs.Groups.{some_in, has_group, groups_in, bits_in, marked_in}
use Rattle.sparse_set.proofs.WordLemmas.{word_bit, marks_at, length_bits}

or_no : (b : Bool) → (b || false) ≡ b
or_no true = refl
or_no false = refl

or_yes : (b : Bool) → (b || true) ≡ true
or_yes true = refl
or_yes false = refl

add_bit : (a b p : ℕ) → b < 2 → 0 < p → ltb 0 (b * p + a) ≡ (ltb 0 a || b == 1)
add_bit a zero p h pos = let e : 0 * p + a ≡ a = omega arith in ap (ltb 0) e ∙ sym (or_no (ltb 0 a))
add_bit a (suc zero) p h pos = lt-ltb 0 (1 * p + a) (omega (arith, pos)) ∙ sym (or_yes (ltb 0 a))
add_bit a (suc (suc b)) p h pos = absurd (omega (arith, h))

-- some of n bits from a place on is set where the number that they make isn't 0
some_bits : (word from n : ℕ) → some_in (bits_in word) from n ≡ ltb 0 (word / 2 ^ from % 2 ^ n)
unfolding bits_in
some_bits word from zero = let e : word / 2 ^ from % 2 ^ 0 ≡ 0 = omega arith in ap (ltb 0) (sym e)
some_bits word from (suc n) =
    let pos : 0 < 2 ^ n = pow_pos n in
    let next : suc n ≡ 1 + n = omega arith in
    let split : word / 2 ^ from % 2 ^ (1 + n) ≡ (bit_at word (from + n)) * 2 ^ n + word / 2 ^ from % 2 ^ n =
    mod-pow-add (word / 2 ^ from) 1 n ∙ ap (λ k. k % 2 * 2 ^ n + word / 2 ^ from % 2 ^ n) (shr-shr word from n) in
    ap (λ b. b || bit_at word (from + n) == 1) (some_bits word from n)
    ∙ sym (add_bit (word / 2 ^ from % 2 ^ n) (bit_at word (from + n)) (2 ^ n) (bit_at-lt word (from + n)) pos)
    ∙ ap (ltb 0) (sym split)
    ∙ ap (λ k. ltb 0 (word / 2 ^ from % 2 ^ k)) (sym next)

-- a byte of a word isn't 0 exactly where its group has a marked page
pub byte_tells : (word place : ℕ) → ltb 0 (word / 2 ^ (8 * place) % 256) ≡ has_group (bits_in word) place
unfolding has_group
byte_tells word place = sym (some_bits word (8 * place) 8)

some_same : (f g : ℕ → Bool) (a b n : ℕ) → ((i : ℕ) → i < n → f (a + i) ≡ g (b + i)) → some_in f a n ≡ some_in g b n
some_same f g a b zero same = refl
some_same f g a b (suc n) same =
    ap (λ c. c || f (a + n)) (some_same f g a b n (λ i h. same i (omega (arith, h)))) ∙ ap (λ c. some_in g b n || c) (same n (omega arith))

-- byte k of word w is group 8 w + k
word_group : (words : List ℕ) (w k : ℕ) → k < 8 → has_group (has words) (8 * w + k) ≡ has_group (bits_in (get_or words w 0)) k
unfolding has_group
word_group words w k h = some_same (has words) (bits_in (get_or words w 0)) (8 * (8 * w + k)) (8 * k) 8 (λ i lt. bit i lt)
  where
    bit : (i : ℕ) → i < 8 → has words (8 * (8 * w + k) + i) ≡ bits_in (get_or words w 0) (8 * k + i)
    bit i lt =
        let e : 8 * (8 * w + k) + i ≡ 64 * w + (8 * k + i) = omega arith in
        ap (has words) e ∙ word_bit words w (8 * k + i) (omega (arith, h, lt))

-- how much a group counts
abbrev counted : Bool → ℕ
counted b = cond b 1 0

groups_front : (words : List ℕ) (w k : ℕ) → k ≤ 8 → groups_in (has words) (8 * w + k) ≡ groups_in (has words) (8 * w) + groups_in (bits_in (get_or words w 0)) k
groups_front words w zero h =
    let here : 8 * w + 0 ≡ 8 * w = omega arith in
    let sum : groups_in (has words) (8 * w) ≡ groups_in (has words) (8 * w) + 0 = omega arith in
    ap (groups_in (has words)) here ∙ sum
groups_front words w (suc k) h =
    let before = groups_front words w k (omega (arith, h)) in
    let here : counted (has_group (has words) (8 * w + k)) ≡ counted (has_group (bits_in (get_or words w 0)) k) = ap counted (word_group words w k (omega (arith, h))) in
    let next : 8 * w + suc k ≡ suc (8 * w + k) = omega arith in
    let sum : groups_in (has words) (8 * w + k) + counted (has_group (has words) (8 * w + k)) ≡ groups_in (has words) (8 * w) + (groups_in (bits_in (get_or words w 0)) k + counted (has_group (bits_in (get_or words w 0)) k)) = omega (arith, before, here) in
    ap (groups_in (has words)) next ∙ sum

-- one word more
pub groups_more : (words : List ℕ) (w n : ℕ) → n ≡ groups_in (bits_in (get_or words w 0)) 8 → groups_in (has words) (8 * (w + 1)) ≡ groups_in (has words) (8 * w) + n
groups_more words w n e =
    let next : 8 * (w + 1) ≡ 8 * w + 8 = omega arith in
    ap (groups_in (has words)) next ∙ groups_front words w 8 (omega arith) ∙ ap (λ k. groups_in (has words) (8 * w) + k) (sym e)

none_in : (f : ℕ → Bool) (from n : ℕ) → ((i : ℕ) → from ≤ i → f i ≡ false) → some_in f from n ≡ false
none_in f from zero clear = refl
none_in f from (suc n) clear = ap (λ b. b || f (from + n)) (none_in f from n clear) ∙ clear (from + n) (omega arith)

no_group : (f : ℕ → Bool) (m g : ℕ) → ((i : ℕ) → 8 * m ≤ i → f i ≡ false) → m ≤ g → has_group f g ≡ false
unfolding has_group
no_group f m g clear le = none_in f (8 * g) 8 (λ i h. clear i (omega (arith, le, h)))

groups_past : (f : ℕ → Bool) (m k : ℕ) → ((i : ℕ) → 8 * m ≤ i → f i ≡ false) → groups_in f (m + k) ≡ groups_in f m
groups_past f m zero clear = let here : m + 0 ≡ m = omega arith in ap (groups_in f) here
groups_past f m (suc k) clear =
    let before = groups_past f m k clear in
    let here : counted (has_group f (m + k)) ≡ 0 = ap counted (no_group f m (m + k) clear (omega arith)) in
    let next : m + suc k ≡ suc (m + k) = omega arith in
    let sum : groups_in f (m + k) + counted (has_group f (m + k)) ≡ groups_in f m = omega (arith, before, here) in
    ap (groups_in f) next ∙ sum

-- the marks of a map are its bits
pub marks_are : (pages : ℕ) (words : List ℕ) → IsFileMap pages words → marked_in (bits_of pages words) ≡ has words
unfolding marked_in
marks_are pages words is = λ j page. marks_at pages words page is j

-- the groups of a map's marks are the bytes of its words
pub groups_are : (pages : ℕ) (words : List ℕ) → IsFileMap pages words → groups_in (has words) (8 * length words) ≡ groups_in (marked_in (bits_of pages words)) ((length (bits_of pages words) + 7) / 8)
groups_are pages words is =
    let long = is.long in
    let whole : 8 * length words ≡ (pages + 7) / 8 + (8 * length words - (pages + 7) / 8) = omega (arith, long) in
    ap (groups_in (has words)) whole
    ∙ groups_past (has words) ((pages + 7) / 8) (8 * length words - (pages + 7) / 8) (λ i h. is.clear i (omega (arith, h)))
    ∙ ap (λ n. groups_in (has words) ((n + 7) / 8)) (sym (length_bits pages words))
    ∙ ap (λ f. groups_in f ((length (bits_of pages words) + 7) / 8)) (sym (marks_are pages words is))
