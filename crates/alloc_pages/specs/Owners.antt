-- Whose a page is: 0 free, 4294967295 an allocation page, else one more than the table's number.
use Rattle.std.specs.Prelude.{◌≡◌, ◌≢◌, ◌==◌, ℕ, ◌<◌, if◌then◌else◌, List, [], length, slice_index_or}
use Rattle.byteorder.specs.Endian.{little_bytes, little_number}
use Rattle.page_base.specs.declared.numbers.PageId.{PageId}
use Rattle.page_base.specs.Slots.{Slots}
use Rattle.alloc_pages.specs.Spots.{spot_of}

-- the four bytes of an owner, the lowest first
unfoldable pub owner_bytes : ℕ → List ℕ
owner_bytes owner = little_bytes 4 owner

-- the owner that a slot's bytes are; other than four count as an allocation page's
unfoldable pub owner_in : List ℕ → ℕ
owner_in bytes = if length bytes == 4 then little_number 4 bytes else 4294967295

-- the owner that slot i holds
abbrev pub owner_at : List (List ℕ) → ℕ → ℕ
owner_at slots i = owner_in (slice_index_or slots i [])

-- slot i is free, and none before it is
pub record IsFirstFree (slots : List (List ℕ)) (i : ℕ) : Type 0 where
  pub free : owner_at slots i ≡ 0
  pub first : (j : ℕ) → j < i → owner_at slots j ≢ 0

-- the owner of a page, over the slots of all pages
abbrev pub page_owner : Slots → PageId → ℕ
page_owner slots p = owner_in (slots (spot_of p).page (spot_of p).slot)
