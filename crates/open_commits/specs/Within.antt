-- Records that lie on pages of owners that their session writes, and two sessions' owners apart from each other.
use Rattle.std.specs.Prelude.{ℕ, ◌≡◌, ◌≢◌, ◌⊎◌, ◌%◌, Bool, true, false, List}
use Rattle.page_base.specs.declared.numbers.PageId.{PageId}
use Rattle.page_base.specs.Slots.{Slots}
use Rattle.alloc_pages.specs.Owners.{page_owner}
use Rattle.alloc_pages.specs.Spots.{spot_of}
use Rattle.rec_log.specs.Records.{Record}
use Rattle.page_tables.specs.Owners.{is_there}
use Rattle.open_tables.specs.Names.{names, AreClaims}

-- each record is on a page that now has an owner that the session writes, or is the claim of such a page
pub record LieWithin (writes : ℕ → Bool) (s : Slots) (records : List Record) : Type 0 where
  pub claims : AreClaims records
  pub claimed : (q : PageId) → names records (spot_of q).page (spot_of q).slot ≡ true → writes (page_owner s q) ≡ true
  pub edits : (p : PageId) (i : ℕ) → names records p i ≡ true → ((p.page % 1280 ≢ 0) × (writes (page_owner s p) ≡ true)) ⊎ ((q : PageId) × ((spot_of q).page ≡ p) × ((spot_of q).slot ≡ i))

-- no owner is both sessions', none of theirs is that of free or of allocation pages, and they don't write table 0
pub record AreApart (mine theirs : ℕ → Bool) : Type 0 where
  pub apart : (o : ℕ) → mine o ≡ true → theirs o ≡ false
  pub free : (mine 0 ≡ false) × (theirs 0 ≡ false)
  pub allocation : (mine 4294967295 ≡ false) × (theirs 4294967295 ≡ false)
  pub zero_table : theirs 1 ≡ false

-- each allocation page tells of itself that it is one
abbrev pub TellOwners : List ℕ → Slots → Type 0
TellOwners counts s = (p : PageId) → is_there counts p ≡ true → p.page % 1280 ≡ 0 → page_owner s p ≡ 4294967295
