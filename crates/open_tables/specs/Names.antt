-- Which slots records are of, and what records of owners' slots stand for.
use Rattle.std.specs.Prelude.{ℕ, ◌≡◌, ◌==◌, ◌&&◌, ◌||◌, Bool, false, List, [], ◌∷◌}
use Rattle.page_base.specs.declared.numbers.PageId.{PageId}
use Rattle.page_base.specs.Pages.{is_page}
use Rattle.alloc_pages.specs.Owners.{owner_in}
use Rattle.alloc_pages.specs.Spots.{spot_of}
use Rattle.rec_log.specs.Records.{Record}

-- whether one of the records is of this slot
abbrev pub names : List Record → PageId → ℕ → Bool
names [] p i = false
names (r ∷ rs) p i = (is_page r.page p && r.slot == i) || names rs p i

-- each record of a page's owner is a claim of it: it was free
abbrev pub AreClaims : List Record → Type 0
AreClaims [] = Unit {0}
AreClaims (r ∷ rs) = ((q : PageId) → r.page ≡ (spot_of q).page → r.slot ≡ (spot_of q).slot → owner_in r.before ≡ 0) × AreClaims rs
