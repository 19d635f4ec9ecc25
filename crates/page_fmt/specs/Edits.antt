-- One slot of a list of slots is set, or emptied, where there is room.
use Rattle.std.specs.Prelude.{◌≡◌, ℕ, zero, suc, ◌-◌, ◌<◌, List, [], ◌∷◌, slice_set, slice_index_or}
use Rattle.page_fmt.specs.Spelling.{used}

-- slot i set, with empty slots before it where the list is shorter
abbrev pub set_slot : List (List ℕ) → ℕ → List ℕ → List (List ℕ)
set_slot [] zero x = x ∷ []
set_slot [] (suc i) x = [] ∷ set_slot [] i x
set_slot (y ∷ ys) zero x = x ∷ ys
set_slot (y ∷ ys) (suc i) x = y ∷ set_slot ys i x

-- a slot before others; an empty one before none is left out
abbrev pub before : List ℕ → List (List ℕ) → List (List ℕ)
before [] [] = []
before x xs = x ∷ xs

-- without the empty slots at the end
abbrev pub trimmed : List (List ℕ) → List (List ℕ)
trimmed [] = []
trimmed (x ∷ xs) = before x (trimmed xs)

-- slot i emptied, and the empty slots at the end cut
abbrev pub cleared : List (List ℕ) → ℕ → List (List ℕ)
cleared slots i = trimmed (slice_set slots i [])

-- the new slots don't fit on the page of the old ones: they would take `need` bytes more, and `free` are left
pub record LacksRoom (old new : List (List ℕ)) (need free : ℕ) : Type 0 where
  pub grows : need ≡ used new - used old
  pub left : free ≡ 8192 - used old
  pub lacks : free < need

-- slot i has these bytes; it is emptied where there are none
abbrev pub edited : List (List ℕ) → ℕ → List ℕ → List (List ℕ)
edited slots i [] = cleared slots i
edited slots i (b ∷ bs) = set_slot slots i (b ∷ bs)

-- the bytes of slot i, none where it is empty or past the last one
abbrev pub slot_at : List (List ℕ) → ℕ → List ℕ
slot_at slots i = slice_index_or slots i []
