-- What the edits of drafted pages do, whatever pages are claimed: they go in turn, and make the pages as they were drafted.
use Rattle.std.specs.Prelude.{Bool, true, ◌≡◌, ◌≢◌, Some, ℕ, List, [], ◌∷◌}
use Rattle.std.specs.List.{AllPairs}
use Rattle.page_base.specs.declared.numbers.PageId.{PageId}
use Rattle.page_base.specs.Pages.{set_at}
use Rattle.page_fmt.specs.Edits.{slot_at}
use Rattle.page_fmt.specs.Seen.{SlotsAt, Looked}
use Rattle.page_fmt.specs.Spelling.{FitsPage}
use Rattle.table_walk.specs.declared.plan.Edit.{Edit}
use Rattle.table_walk.specs.Plans.{place, after, Go, also, AreWithin, IsOtherSlot, SpotBelow, NameBelow}
use Rattle.page_draft.specs.Drafts.{Drafted, fits_in, ends_full, cell_of, slots_of, cell_at, old_of}

-- each page fits, as drafted and as read
abbrev pub HaveRoom : List Looked → List Drafted → Type 0
HaveRoom seen [] = Unit {0}
HaveRoom seen (d ∷ ds) = ((fits_in 8096 d.cells ≡ true) × (ends_full d.cells ≡ true) × FitsPage (old_of seen d.spot)) × HaveRoom seen ds

-- a drafted page stands as it was read, is the table's or claimed, and no slot holds already what is to name a claimed page
pub record Stands (claimed : ℕ → PageId) (n : ℕ) (at : SlotsAt) (owns : PageId → Bool) (seen : List Looked) (d : Drafted) : Type 0 where
  pub were : at (place claimed d.spot) ≡ old_of seen d.spot
  pub within : also owns claimed n (place claimed d.spot) ≡ true
  pub names : (i j : ℕ) → (cell_at d.cells i).names ≡ Some j → slot_at (old_of seen d.spot) i ≢ cell_of claimed (cell_at d.cells i)

-- these are other pages
abbrev pub AreOthers : (ℕ → PageId) → PageId → List Drafted → Type 0
AreOthers claimed p [] = Unit {0}
AreOthers claimed p (d ∷ ds) = (p ≢ place claimed d.spot) × AreOthers claimed p ds

-- so each of them, no two of one page
abbrev pub Stand : (ℕ → PageId) → ℕ → SlotsAt → (PageId → Bool) → List Looked → List Drafted → Type 0
Stand claimed n at owns seen [] = Unit {0}
Stand claimed n at owns seen (d ∷ ds) = Stands claimed n at owns seen d × AreOthers claimed (place claimed d.spot) ds × Stand claimed n at owns seen ds

-- all pages, the drafted ones as they were drafted
abbrev pub drawn : (ℕ → PageId) → List Drafted → SlotsAt → SlotsAt
drawn claimed [] at = at
drawn claimed (d ∷ ds) at = drawn claimed ds (set_at at (place claimed d.spot) (slots_of claimed d.cells))

-- the edits go in turn, on these pages alone, each of another slot, and make them
pub record Make (claimed : ℕ → PageId) (n : ℕ) (at : SlotsAt) (owns : PageId → Bool) (ds : List Drafted) (edits : List Edit) : Type 0 where
  pub go : Go claimed at edits
  pub within : AreWithin claimed n owns edits
  pub made : after claimed at edits ≡ drawn claimed ds at
  pub once : AllPairs (IsOtherSlot claimed) edits

-- a drafted page speaks of the first n claimed pages alone
pub record SpeaksBelow (n : ℕ) (d : Drafted) : Type 0 where
  pub spot : SpotBelow n d.spot
  pub names : (i : ℕ) → NameBelow n (cell_at d.cells i).names
