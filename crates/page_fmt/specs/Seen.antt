-- What was read of some pages: each page with its slots, in the order of reading.
use Rattle.std.specs.Prelude.{if◌then◌else◌, ◌≡◌, ℕ, ◌+◌, ◌<◌, List, [], ◌∷◌, length}
use Rattle.page_base.specs.declared.numbers.PageId.{PageId}
use Rattle.page_base.specs.Pages.{is_page}

-- the slots of each page
abbrev pub SlotsAt : Type 0
SlotsAt = PageId → List (List ℕ)

-- a page that was read, and its slots
pub record Looked : Type 0 where
  pub page : PageId
  pub slots : List (List ℕ)

-- the place of a page in the list, or the list's length
abbrev pub place_of : List Looked → PageId → ℕ
place_of [] p = 0
place_of (l ∷ ls) p = if is_page l.page p then 0 else place_of ls p + 1

-- what was read of a page: no slots where it wasn't
abbrev pub look : List Looked → SlotsAt
look [] p = []
look (l ∷ ls) p = if is_page l.page p then l.slots else look ls p

-- the page was read
abbrev pub Saw : List Looked → PageId → Type 0
Saw seen p = place_of seen p < length seen

-- what was read stands there
abbrev pub Shows : List Looked → SlotsAt → Type 0
Shows seen at = (p : PageId) → Saw seen p → look seen p ≡ at p
