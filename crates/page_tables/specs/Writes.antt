-- Writes of slots to come: those of claims and of edits, once the claimed pages are known.
use Rattle.std.specs.Prelude.{ℕ, zero, suc, ◌+◌, ◌≡◌, ◌<◌, ◌≢◌, true, List, [], ◌∷◌, ◌++◌}
use Rattle.page_base.specs.declared.numbers.PageId.{PageId}
use Rattle.page_base.specs.Slots.{Slots, with_slot}
use Rattle.page_base.specs.Pages.{set_at}
use Rattle.page_fmt.specs.Edits.{edited}
use Rattle.page_fmt.specs.Seen.{SlotsAt}
use Rattle.alloc_pages.specs.Owners.{owner_bytes}
use Rattle.alloc_pages.specs.Spots.{spot_of}
use Rattle.table_walk.specs.declared.plan.Edit.{Edit}
use Rattle.table_walk.specs.Addresses.{IsTarget}
use Rattle.table_walk.specs.Plans.{place, bytes_of}
use Rattle.page_tables.specs.Owners.{is_there, owner}

-- these bytes for a slot of a page
pub record Write : Type 0 where
  pub page : PageId
  pub slot : ℕ
  pub bytes : List ℕ

-- the slots after writes, done in order
abbrev pub done : List Write → Slots → Slots
done [] slots = slots
done (w ∷ ws) slots = done ws (with_slot slots w.page w.slot w.bytes)

-- a page is given to the table of this number
abbrev pub claim : ℕ → PageId → Write
claim number p = record { page = (spot_of p).page; slot = (spot_of p).slot; bytes = owner_bytes (number + 1) }

-- the first n claims
abbrev pub claims : ℕ → (ℕ → PageId) → ℕ → List Write
claims number claimed zero = []
claims number claimed (suc n) = claims number claimed n ++ claim number (claimed n) ∷ []

-- an edit, where these pages are claimed
abbrev pub write_of : (ℕ → PageId) → Edit → Write
write_of claimed e = record { page = place claimed e.spot; slot = e.slot; bytes = bytes_of claimed e }

-- the first n of these pages may be claimed: they are there, free, different, and may be named
pub record AreClaimable (counts : List ℕ) (at : SlotsAt) (claimed : ℕ → PageId) (n : ℕ) : Type 0 where
  pub there : (i : ℕ) → i < n → is_there counts (claimed i) ≡ true
  pub free : (i : ℕ) → i < n → owner at (claimed i) ≡ 0
  pub differ : (i j : ℕ) → i < j → j < n → claimed i ≢ claimed j
  pub targets : (i : ℕ) → i < n → IsTarget (claimed i)

-- the pages once the first n claims are done
abbrev pub with_claims : ℕ → (ℕ → PageId) → ℕ → SlotsAt → SlotsAt
with_claims number claimed zero at = at
with_claims number claimed (suc n) at = set_at (with_claims number claimed n at) (spot_of (claimed n)).page
    (edited (with_claims number claimed n at (spot_of (claimed n)).page) (spot_of (claimed n)).slot (owner_bytes (number + 1)))
