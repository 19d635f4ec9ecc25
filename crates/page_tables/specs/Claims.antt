-- Claims to come: the pages that may still be claimed, where some were.
use Rattle.std.specs.Prelude.{true, ◌≡◌, ◌≢◌, ℕ, zero, suc, ◌+◌, ◌<◌, ◌≤◌, List, [], ◌∷◌, length, slice_index_or}
use Rattle.page_base.specs.declared.numbers.PageId.{PageId}
use Rattle.page_base.specs.Slots.{Slots}
use Rattle.alloc_pages.specs.Owners.{page_owner}
use Rattle.table_walk.specs.Addresses.{IsTarget}
use Rattle.page_tables.specs.Owners.{is_there}
use Rattle.page_tables.specs.Writes.{Write, claim}

-- the claims of so many pages, from the one of a number on
abbrev pub claims_from : ℕ → (ℕ → PageId) → ℕ → ℕ → List Write
claims_from number claimed i zero = []
claims_from number claimed i (suc k) = claim number (claimed i) ∷ claims_from number claimed (i + 1) k

-- of n pages the first ones were claimed, and the others may be: they are there and free; all differ and may be named
pub record Claimable (counts : List ℕ) (s : Slots) (taken : List PageId) (n : ℕ) (claimed : ℕ → PageId) : Type 0 where
  pub were : (i : ℕ) → i < length taken → (d : PageId) → slice_index_or taken i d ≡ claimed i
  pub there : (i : ℕ) → length taken ≤ i → i < n → is_there counts (claimed i) ≡ true
  pub free : (i : ℕ) → length taken ≤ i → i < n → page_owner s (claimed i) ≡ 0
  pub differ : (i j : ℕ) → i < j → j < n → claimed i ≢ claimed j
  pub targets : (i : ℕ) → i < n → IsTarget (claimed i)
