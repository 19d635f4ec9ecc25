-- Images that are kept of pages, and what becomes of the source when they take its place.
use Rattle.std.specs.Prelude.{◌≡◌, Bool, true, if◌then◌else◌, ℕ, ◌-◌, List, is_some}
use Rattle.std.specs.Option.{option_map_or}
use Rattle.std.specs.List.{IsDistinct, AllByRecursion}
use Rattle.std.specs.Map.{keys_of, lookup}
use Rattle.page_base.specs.declared.numbers.PageId.{PageId}
use Rattle.page_base.specs.Pages.{is_page}
use Rattle.page_fmt.specs.Content.{IsPage}
use Rattle.buf_pool.specs.Order.{order}
use Rattle.snap_pages.specs.Shown.{Shown, IsPinned}
use Rattle.snap_pages.specs.Views.{KeepsViews}
use Rattle.snap_pages.specs.Dues.{IsPushed}
use Rattle.snap_pages.specs.Steps.{SameSnaps, SamePlaces}

-- the pages in the order in which they were gathered, with their images
abbrev pub Got : Type 0
Got = List (PageId × List ℕ)

-- whether an image of the page is kept
abbrev pub has : Got → PageId → Bool
has got p = is_some (lookup (is_page p) got)

-- no page is kept twice, and each image is a page
pub record IsGot (got : Got) : Type 0 where
  pub once : IsDistinct is_page (keys_of got)
  pub pages : AllByRecursion (λ (e : PageId × List ℕ). IsPage e.1) got

-- the images with those that are kept in place of the others
abbrev pub swapped : Got → (PageId → List ℕ) → PageId → List ℕ
swapped got images p = option_map_or (λ (x : List ℕ). x) (lookup (is_page p) got) (images p)

-- the pins without that of each page that is kept
abbrev pub ungathered : Got → (PageId → ℕ) → PageId → ℕ
ungathered got pins p = if has got p then pins p - 1 else pins p

-- each page that is kept is pinned
abbrev pub AreHeld : Got → Shown → Type 0
AreHeld got v = (p : PageId) → has got p ≡ true → IsPinned v p

-- and no snapshot lacks it
abbrev pub AreGotPushed : Got → Shown → Type 0
AreGotPushed got v = (p : PageId) → has got p ≡ true → IsPushed v p

-- what is there once the images were swapped in, or let go: nothing but images and pins differs
pub record LeavesRest (old new : Shown) : Type 0 where
  pub order : order new.pool ≡ order old.pool
  pub files : new.pool.files ≡ old.pool.files
  pub frames : new.pool.frames ≡ old.pool.frames
  pub snaps : SameSnaps old new
  pub places : SamePlaces old new
  pub views : KeepsViews old new
