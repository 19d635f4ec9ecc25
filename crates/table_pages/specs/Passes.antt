-- Edits that lead from a page's slots to others in two passes over the slots, the second of those that grow.
use Rattle.std.specs.Prelude.{◌≡◌, ◌≢◌, ◌⊎◌, ℕ, ◌<◌, ◌≤◌, Bool, true, false, List, length}
use Rattle.std.specs.List.{AllByRecursion}
use Rattle.page_base.specs.declared.numbers.PageId.{PageId}
use Rattle.page_base.specs.Slots.{Slots}
use Rattle.page_fmt.specs.Edits.{slot_at}
use Rattle.table_pages.specs.declared.edit.Edit.{Edit}
use Rattle.table_pages.specs.Edits.{done, FitIn, Change}
use Rattle.table_pages.specs.Turns.{AreInTurn}

-- before slot k of a pass slot j has its new bytes
abbrev pub IsSet : List (List ℕ) → List (List ℕ) → Bool → ℕ → ℕ → Type 0
IsSet slots left false k j = (j < k) × (length (slot_at left j) ≤ length (slot_at slots j))
IsSet slots left true k j = (j < k) ⊎ (length (slot_at left j) ≤ length (slot_at slots j))

-- before slot k of a pass slot j has its old bytes
abbrev pub IsUnset : List (List ℕ) → List (List ℕ) → Bool → ℕ → ℕ → Type 0
IsUnset slots left false k j = (k ≤ j) ⊎ (length (slot_at slots j) < length (slot_at left j))
IsUnset slots left true k j = (k ≤ j) × (length (slot_at slots j) < length (slot_at left j))

-- an edit of a slot that has its new bytes
pub record IsPast (slots left : List (List ℕ)) (growing : Bool) (k : ℕ) (e : Edit) : Type 0 where
  pub bytes : e.bytes ≡ slot_at left e.slot
  pub set : IsSet slots left growing k e.slot

-- the edits so far, before slot k of a pass
pub record IsPass (p : PageId) (slots left : List (List ℕ)) (growing : Bool) (k : ℕ) (edits : List Edit) : Type 0 where
  pub turn : AreInTurn p slots edits
  pub past : AllByRecursion (IsPast slots left growing k) edits
  pub fits : (c : PageId → List (List ℕ)) → c p ≡ slots → FitIn c edits
  pub changes : (s : Slots) → s p ≡ slot_at slots → Change s edits
  pub set : (s : Slots) → s p ≡ slot_at slots → (j : ℕ) → IsSet slots left growing k j → done edits s p j ≡ slot_at left j
  pub unset : (s : Slots) → s p ≡ slot_at slots → (j : ℕ) → IsUnset slots left growing k j → done edits s p j ≡ slot_at slots j
  pub others : (s : Slots) (q : PageId) → q ≢ p → done edits s q ≡ s q
