-- The order of a plan's edits: those that don't grow their slots first, and each kind in the order of the slots.
use Rattle.std.specs.Prelude.{◌≡◌, ◌≢◌, ◌⊎◌, ℕ, ◌<◌, nat_lt, Bool, true, false, List, [], ◌∷◌, length}
use Rattle.std.specs.List.{AllByRecursion}
use Rattle.page_base.specs.declared.numbers.PageId.{PageId}
use Rattle.page_fmt.specs.Edits.{slot_at}
use Rattle.table_pages.specs.declared.edit.Edit.{Edit}

-- whether an edit gives its slot more bytes than it has
abbrev pub grows : List (List ℕ) → Edit → Bool
grows slots e = nat_lt (length (slot_at slots e.slot)) (length e.bytes)

-- one edit comes before another: it alone doesn't grow its slot, or its slot stands first
pub record Precedes (slots : List (List ℕ)) (e d : Edit) : Type 0 where
  pub other : e.slot ≢ d.slot
  pub turn : ((grows slots e ≡ false) × (grows slots d ≡ true)) ⊎ ((grows slots e ≡ grows slots d) × e.slot < d.slot)

-- the edits lie on this page behind slot 0, each of another slot, in this order
abbrev pub AreInTurn : PageId → List (List ℕ) → List Edit → Type 0
AreInTurn p slots [] = Unit {0}
AreInTurn p slots (e ∷ es) = (e.page ≡ p) × (0 < e.slot) × AllByRecursion (Precedes slots e) es × AreInTurn p slots es
