-- The bytes of a page, from its slots.
use Rattle.std.specs.Prelude.{◌≢◌, ℕ, ◌+◌, ◌-◌, ◌*◌, ◌/◌, ◌%◌, ◌≤◌, List, [], ◌∷◌, ◌++◌, length, replicate}

-- a number in two bytes, the lower one first
abbrev pub le16 : ℕ → List ℕ
le16 n = n % 256 ∷ n / 256 ∷ []

-- the bytes of the slots, one slot after the other
abbrev pub rows : List (List ℕ) → List ℕ
rows [] = []
rows (x ∷ xs) = x ++ rows xs

-- how many these bytes are
abbrev pub row_bytes : List (List ℕ) → ℕ
row_bytes [] = 0
row_bytes (x ∷ xs) = length x + row_bytes xs

-- where each slot begins, the first that isn't empty at a place; 0 for an empty one
abbrev pub offsets : ℕ → List (List ℕ) → List ℕ
offsets at [] = []
offsets at ([] ∷ xs) = 0 ∷ offsets at xs
offsets at ((b ∷ bs) ∷ xs) = at ∷ offsets (at + length (b ∷ bs)) xs

-- the offsets stand at the page's end, the first one last
abbrev pub table : List ℕ → List ℕ
table [] = []
table (o ∷ os) = table os ++ le16 o

-- how many bytes of the page these slots take, with the header and their offsets
abbrev pub used : List (List ℕ) → ℕ
used slots = 96 + row_bytes slots + 2 * length slots

-- the numbers of slots and of row bytes, and zeros: 96 bytes in all
unfoldable pub header : ℕ → ℕ → List ℕ
header count bytes = le16 count ++ (le16 bytes ++ replicate 92 0)

-- the header, the rows, zeros, and the offsets
unfoldable pub spell : List (List ℕ) → List ℕ
spell slots = header (length slots) (row_bytes slots) ++ (rows slots ++ (replicate (8192 - used slots) 0 ++ table (offsets 96 slots)))

-- the last slot isn't empty
abbrev pub LastIsFull : List (List ℕ) → Type 0
LastIsFull [] = Unit {0}
LastIsFull (x ∷ []) = x ≢ []
LastIsFull (x ∷ y ∷ ys) = LastIsFull (y ∷ ys)

-- these slots can be the slots of a page
pub record FitsPage (slots : List (List ℕ)) : Type 0 where
  pub small : used slots ≤ 8192
  pub last : LastIsFull slots
