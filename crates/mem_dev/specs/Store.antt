-- Pages in memory, of which those that were never written take none.
use Rattle.std.specs.Prelude.{ℕ, ◌^◌, ◌<◌, Bool, IsTrue, ◌==◌, ◌&&◌, not, nat_le, false, List, slice_index_or, map, length, Option, None, Some, is_some, count_by}
use Rattle.std.specs.List.{list_all}
use Rattle.page_base.specs.Pages.{blank}
use Rattle.page_dev.specs.PageFile.{FilePages}
use Rattle.mem_dev.specs.Plan.{Plan}

-- each page: its bytes, or none
abbrev pub Stored : Type 0
Stored = List (Option (List ℕ))

-- what a page reads as
abbrev pub bytes_of : Option (List ℕ) → List ℕ
bytes_of None = blank
bytes_of (Some bytes) = bytes

-- what all pages read as
abbrev pub content_of : Stored → FilePages
content_of pages = map bytes_of pages

-- how many pages were written
abbrev pub written : Stored → ℕ
written pages = count_by is_some pages

-- whether all pages have 8,192 bytes
abbrev pub are_sized : FilePages → Bool
are_sized pages = list_all (λ page. length page == 8192) pages

-- whether all pages read as 8,192 bytes
abbrev pub are_images : Stored → Bool
are_images pages = are_sized (content_of pages)

-- the pages are images, and few enough to be counted in 32 bits
pub record IsStore (pages : Stored) : Type 0 where
  pub images : IsTrue (are_images pages)
  pub few : length pages < 2 ^ 32

-- whether each page was written
abbrev pub is_full : Stored → Bool
is_full pages = list_all is_some pages

-- whether a write of page n would give a file more pages than it may have
abbrev pub is_over : Option ℕ → Stored → ℕ → Bool
is_over None pages n = false
is_over (Some limit) pages n = not (is_some (slice_index_or pages n None)) && nat_le limit (written pages)

-- a page file: its pages, how many it may have, the calls that fail, and how many were made
pub record PagesState : Type 0 where
  pub pages : Stored
  pub limit : Option ℕ
  pub plan : Plan
  pub calls : ℕ

-- a page file that never fails: its pages, and how many calls were made
pub record SureState : Type 0 where
  pub pages : FilePages
  pub calls : ℕ

-- a log: its bytes, the limit of its name, which it keeps, and the calls that fail
pub record LogState : Type 0 where
  pub bytes : List ℕ
  pub limit : Option ℕ
  pub plan : Plan
