-- The slots of a page, read from its bytes, whatever they are; and what is a page.
use Rattle.std.specs.Prelude.{◌≡◌, ℕ, zero, suc, ◌+◌, ◌-◌, ◌*◌, List, [], ◌∷◌, slice_index, slice_range}
use Rattle.page_fmt.specs.Spelling.{spell, FitsPage}

-- the number at a place
abbrev pub le16_at : List ℕ → ℕ → ℕ
le16_at image at = slice_index image at + 256 * slice_index image (at + 1)

-- so many offsets, the first at a place and each further one two bytes before
abbrev pub offsets_at : List ℕ → ℕ → ℕ → List ℕ
offsets_at image at zero = []
offsets_at image at (suc n) = le16_at image at ∷ offsets_at image (at - 2) n

-- where the next slot that isn't empty begins, or where the rows end
abbrev pub next_start : ℕ → List ℕ → ℕ
next_start end [] = end
next_start end (zero ∷ os) = next_start end os
next_start end (suc o ∷ os) = suc o

-- the slots at these offsets: each goes on to the next one's beginning
abbrev pub slots_at : List ℕ → ℕ → List ℕ → List (List ℕ)
slots_at image end [] = []
slots_at image end (zero ∷ os) = [] ∷ slots_at image end os
slots_at image end (suc o ∷ os) = slice_range image (suc o) (next_start end os) ∷ slots_at image end os

-- where the rows end
abbrev pub row_end : List ℕ → ℕ
row_end image = 96 + le16_at image 2

-- the list of slots
unfoldable pub content : List ℕ → List (List ℕ)
content image = slots_at image (row_end image) (offsets_at image 8190 (le16_at image 0))

-- a page: its bytes are the one spelling of its content
pub record IsPage (image : List ℕ) : Type 0 where
  pub spelled : image ≡ spell (content image)
  pub fits : FitsPage (content image)
