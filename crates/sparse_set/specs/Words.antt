-- Marks of pages as bits of words: bit i of word w is page 64 w + i.
use Rattle.std.specs.Prelude.{◌≡◌, ℕ, zero, suc, ◌+◌, ◌*◌, ◌/◌, ◌%◌, ◌^◌, ◌≤◌, ◌==◌, Bool, false, if◌then◌else◌, List, map, length, slice_index, slice_index_or}
use Rattle.std.specs.List.{range_with_len}
use Rattle.std.specs.Int.{bit_at}

-- whether a page's bit is set
unfoldable pub has : List ℕ → ℕ → Bool
has words page = bit_at (slice_index words (page / 64)) (page % 64) == 1

-- the marks of so many pages
unfoldable pub bits_of : ℕ → List ℕ → List Bool
bits_of pages words = map (has words) (range_with_len 0 pages)

-- the number whose bits below n are these
abbrev pub number_of : (ℕ → Bool) → ℕ → ℕ
number_of bits zero = 0
number_of bits (suc n) = (if bits n then 1 else 0) * 2 ^ n + number_of bits n

-- word w of some marks; bits past their end are 0
unfoldable pub word_of : List Bool → ℕ → ℕ
word_of marks w = number_of (λ i. slice_index_or marks (64 * w + i) false) 64

-- the words of some marks
abbrev pub words_of : List Bool → List ℕ
words_of marks = map (word_of marks) (range_with_len 0 ((length marks + 63) / 64))

-- there is a word for each 64 pages begun, and no bit past the last page is set
pub record IsFileMap (pages : ℕ) (words : List ℕ) : Type 0 where
  pub long : length words ≡ (pages + 63) / 64
  pub clear : (page : ℕ) → pages ≤ page → has words page ≡ false
