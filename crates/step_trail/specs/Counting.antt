-- How many pages of some files pass a test.
use Rattle.std.specs.Prelude.{ℕ, zero, suc, ◌≡◌, ◌+◌, ◌/◌, Bool, true, false, not, ◌&&◌, nat_lt, if◌then◌else◌, List, [], ◌∷◌, length, sum_by}
use Rattle.std.specs.List.{list_any}
use Rattle.page_base.specs.declared.numbers.PageId.{PageId}
use Rattle.page_base.specs.Pages.{is_page}
use Rattle.page_fmt.specs.Seen.{Looked, place_of}
use Rattle.sparse_set.specs.Sparse.{is_copied}
use Rattle.snap_pages.specs.Shown.{Shown, counts, set_of}
use Rattle.step_words.specs.Seats.{Gathered}

-- of the first pages of one file, so many
abbrev pub pages_in : (PageId → Bool) → ℕ → ℕ → ℕ
pages_in test file zero = 0
pages_in test file (suc n) = pages_in test file n + (if test (record { file = file; page = n }) then 1 else 0)

-- of files with so many pages, the first with this number
abbrev pub pages_from : (PageId → Bool) → ℕ → List ℕ → ℕ
pages_from test file [] = 0
pages_from test file (n ∷ ns) = pages_in test file n + pages_from test (file + 1) ns

unfoldable pub count_pages : List ℕ → (PageId → Bool) → ℕ
count_pages files test = pages_from test 0 files

-- how many there are
abbrev pub all_pages : List ℕ → ℕ
all_pages files = count_pages files (λ p. true)

-- how many of them tell whose the others are
abbrev pub alloc_pages : List ℕ → ℕ
alloc_pages files = sum_by (λ n. (n + 1279) / 1280) files

-- how many weren't read
abbrev pub unread : List ℕ → List Looked → ℕ
unread files seen = count_pages files (λ p. not (nat_lt (place_of seen p) (length seen)))

-- whether a page is one of a list, and that none stands there twice
abbrev pub is_in : List PageId → PageId → Bool
is_in ps q = list_any (λ (p : PageId). is_page p q) ps

abbrev pub AreApart : List PageId → Type 0
AreApart [] = Unit {0}
AreApart (p ∷ ps) = (is_in ps p ≡ false) × AreApart ps

-- how many pages the one snapshot has that weren't gathered for a revert
abbrev pub was_gathered : List Gathered → PageId → Bool
was_gathered gathered p = list_any (λ (g : Gathered). is_page g.page p) gathered

abbrev pub ungathered : Shown → List Gathered → ℕ
ungathered v gathered = count_pages (counts v) (λ p. is_copied (set_of v (record { 0 = 0 })) p && not (was_gathered gathered p))
