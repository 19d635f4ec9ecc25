-- Whose each page is, by the allocation pages: free, an allocation page, or a table's.
use Rattle.std.specs.Prelude.{ℕ, nat_lt, ◌≡◌, ◌≢◌, ◌==◌, ◌&&◌, ◌+◌, ◌-◌, ◌%◌, ◌<◌, ◌≤◌, Bool, true, if◌then◌else◌, List, length, slice_index_or}
use Rattle.std.specs.List.{Any}
use Rattle.page_base.specs.declared.numbers.PageId.{PageId}
use Rattle.page_fmt.specs.Edits.{slot_at}
use Rattle.page_fmt.specs.Seen.{SlotsAt}
use Rattle.alloc_pages.specs.Owners.{owner_at}
use Rattle.alloc_pages.specs.Spots.{spot_of}
use Rattle.sys_cat.specs.declared.desc.TableDesc.{TableDesc}

-- the page is one of the data files', of which each has so many
abbrev pub is_there : List ℕ → PageId → Bool
is_there counts p = nat_lt p.page (slice_index_or counts p.file 0)

-- the owner that the allocation page of a page tells
abbrev pub owner : SlotsAt → PageId → ℕ
owner at p = owner_at (at (spot_of p).page) (spot_of p).slot

-- whether the page is there, and is that of the table of this number
abbrev pub owns : List ℕ → SlotsAt → ℕ → PageId → Bool
owns counts at number p = is_there counts p && owner at p == number + 1

-- of how many pages an allocation page tells
abbrev pub span : List ℕ → PageId → ℕ
span counts a = if nat_lt 1280 (slice_index_or counts a.file 0 - a.page) then 1280 else slice_index_or counts a.file 0 - a.page

-- the page is there, and tells of itself and the next 1279
pub record IsAllocPage (counts : List ℕ) (a : PageId) : Type 0 where
  pub there : is_there counts a ≡ true
  pub every : a.page % 1280 ≡ 0

-- an allocation page tells of each page as far as the file goes, in four bytes: of itself as of one, of no other so
pub record IsSpread (counts : List ℕ) (at : SlotsAt) (a : PageId) : Type 0 where
  pub long : length (at a) ≤ span counts a
  pub four : (j : ℕ) → j < span counts a → length (slot_at (at a) j) ≡ 4
  pub own : owner_at (at a) 0 ≡ 4294967295
  pub only : (j : ℕ) → 0 < j → j < span counts a → owner_at (at a) j ≢ 4294967295

-- a page may be free, an allocation page, table 0's, or that of a table which is described
pub data IsOwner (tables : List TableDesc) : ℕ → Type 0 where
  Free : IsOwner tables 0
  Allocation : IsOwner tables 4294967295
  OfZero : IsOwner tables 1
  OfTable : (d : TableDesc) → Any (λ e. e ≡ d) tables → IsOwner tables (d.number.0 + 1)
