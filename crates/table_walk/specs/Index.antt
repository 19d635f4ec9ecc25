-- The place of each page that was read, looked up in an ordered map.
use Rattle.std.specs.Prelude.{ℕ, ◌≡◌, nat_lt, if◌then◌else◌, Option, Some, None, List, length}
use Rattle.std.specs.Ordering.{nat_cmp, ordering_then}
use Rattle.std.specs.declared.cmp.Ordering.{Ordering}
use Rattle.std.specs.BTreeMap as tree
use Rattle.std.specs.BTreeMap.{BTreeMap}
use Rattle.page_base.specs.declared.numbers.PageId.{PageId}
use Rattle.page_fmt.specs.Seen.{Looked, place_of}

-- the order of pages: by their files, and then by their numbers
abbrev pub page_cmp : PageId → PageId → Ordering
page_cmp p q = ordering_then (nat_cmp p.file q.file) (nat_cmp p.page q.page)

-- the place of a page, none where it wasn't read
abbrev pub place_in : List Looked → PageId → Option ℕ
place_in seen p = if nat_lt (place_of seen p) (length seen) then Some (place_of seen p) else None

-- the map has the place of each page
abbrev pub Indexes : BTreeMap PageId ℕ → List Looked → Type 0
Indexes places seen = (p : PageId) → tree.get page_cmp places p ≡ place_in seen p
