-- The edits that make one page of another: one for each slot that differs, those that don't grow before those that do.
use Rattle.std.specs.Prelude.{Bool, false, true, not, nat_lt, if◌then◌else◌, None, ◌≡◌, ◌≢◌, ℕ, zero, suc, ◌+◌, ◌<◌, ◌≤◌, List, [], ◌∷◌, ◌++◌, length, slice_index_or}
use Rattle.std.specs.List.{AllPairs}
use Rattle.std.specs.Str.{bytes_eq}
use Rattle.page_fmt.specs.Edits.{edited, slot_at}
use Rattle.page_fmt.specs.Spelling.{used}
use Rattle.table_walk.specs.declared.plan.Edit.{Edit}
use Rattle.table_walk.specs.declared.plan.Spot.{Spot}
use Rattle.page_base.specs.declared.limits.TheConstants.{MAX_SLOTS, MAX_SLOT_BYTES}

-- each edit is of this page, which holds rows, and names no claimed page
abbrev pub ArePlain : Spot → List Edit → Type 0
ArePlain spot [] = Unit {0}
ArePlain spot (e ∷ es) = ((e.spot ≡ spot) × (e.names ≡ None) × (e.of_row ≡ true)) × ArePlain spot es

-- an edit fits on a page of these slots, and changes its slot
pub record SlotFits (slots : List (List ℕ)) (e : Edit) : Type 0 where
  pub index : e.slot < MAX_SLOTS
  pub short : length e.bytes ≤ MAX_SLOT_BYTES
  pub room : used (edited slots e.slot e.bytes) ≤ 8192
  pub changes : slot_at slots e.slot ≢ e.bytes

-- each edit does, after those before it
abbrev pub PageGo : List (List ℕ) → List Edit → Type 0
PageGo slots [] = Unit {0}
PageGo slots (e ∷ es) = SlotFits slots e × PageGo (edited slots e.slot e.bytes) es

-- the slots after all edits
abbrev pub made_of : List (List ℕ) → List Edit → List (List ℕ)
made_of slots [] = slots
made_of slots (e ∷ es) = made_of (edited slots e.slot e.bytes) es

-- the edits of a page go in turn, and make the new slots of the old ones; each is of another slot
pub record MakesPage (spot : Spot) (old new : List (List ℕ)) (edits : List Edit) : Type 0 where
  pub are : ArePlain spot edits
  pub go : PageGo old edits
  pub made : made_of old edits ≡ new
  pub once : AllPairs (λ e f. e.slot ≢ f.slot) edits

-- such edits were put behind others
pub record AddsPage (spot : Spot) (old new : List (List ℕ)) (before after : List Edit) : Type 0 where
  pub edits : List Edit
  pub are : after ≡ before ++ edits
  pub make : MakesPage spot old new edits

-- the edit of a slot
abbrev pub edit_at : Spot → ℕ × List ℕ → Edit
edit_at spot c = record { spot = spot; slot = c.0; names = None; bytes = c.1; of_row = true }

-- whether a slot changes, and grows or doesn't
abbrev pub is_wanted : Bool → List ℕ → List ℕ → Bool
is_wanted grows x y = if bytes_eq x y then false else (if nat_lt (length x) (length y) then grows else not grows)

-- those of n slots, the first of this place, that change so
abbrev pub changes_at : Bool → List (List ℕ) → List (List ℕ) → ℕ → ℕ → List (ℕ × List ℕ)
changes_at grows old new i zero = []
changes_at grows old new i (suc n) =
    if is_wanted grows (slice_index_or old i []) (slice_index_or new i []) then (i, slice_index_or new i []) ∷ changes_at grows old new (i + 1) n else changes_at grows old new (i + 1) n

-- those that don't grow come first
abbrev pub page_changes : List (List ℕ) → List (List ℕ) → List (ℕ × List ℕ)
page_changes old new = changes_at false old new 0 (length old + length new) ++ changes_at true old new 0 (length old + length new)

-- the slots after changes
abbrev pub page_after : List (List ℕ) → List (ℕ × List ℕ) → List (List ℕ)
page_after slots [] = slots
page_after slots (c ∷ cs) = page_after (edited slots c.0 c.1) cs

-- each change has room, and changes its slot
abbrev pub PageGoes : List (List ℕ) → List (ℕ × List ℕ) → Type 0
PageGoes slots [] = Unit {0}
PageGoes slots (c ∷ cs) = (used (edited slots c.0 c.1) ≤ 8192) × (slice_index_or slots c.0 [] ≢ c.1) × PageGoes (edited slots c.0 c.1) cs
