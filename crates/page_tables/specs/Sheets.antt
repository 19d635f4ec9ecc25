-- Pages as lists of slots, of functions to the bytes of their slots: a page has the slots that the format can hold.
use Rattle.std.specs.Prelude.{ℕ, zero, suc, ◌+◌, List, [], ◌∷◌}
use Rattle.page_base.specs.declared.limits.TheConstants.{MAX_SLOTS}
use Rattle.page_base.specs.Slots.{Slots}
use Rattle.page_fmt.specs.Edits.{trimmed}
use Rattle.page_fmt.specs.Seen.{SlotsAt}

-- the first n slots
abbrev pub first_slots : (ℕ → List ℕ) → ℕ → List (List ℕ)
first_slots slots zero = []
first_slots slots (suc n) = slots 0 ∷ first_slots (λ i. slots (i + 1)) n

-- the slots of each page, without the empty ones at its end
unfoldable pub sheets : Slots → SlotsAt
sheets slots p = trimmed (first_slots (slots p) MAX_SLOTS)
