-- What the calls leave as it was.
use Rattle.std.specs.Prelude.{◌≡◌, ◌≤◌, IsTrue, if◌then◌else◌, List, Option, None}
use Rattle.std.specs.Map.{lookup}
use Rattle.page_base.specs.declared.numbers.PageId.{PageId}
use Rattle.page_base.specs.Pages.{is_page}
use Rattle.page_fmt.specs.Content.{IsPage}
use Rattle.page_dev.specs.Faults.{total}
use Rattle.buf_pool.specs.declared.frame.Frame.{Frame}
use Rattle.buf_pool.specs.Pool.{Pooled, IsPooled, IsPinned, frame_of, img, pins, with_pin}
use Rattle.buf_pool.specs.Order.{order}

-- one page has this frame, or none, and all others what they had
abbrev pub Changes : PageId → Option Frame → List (PageId × Frame) → List (PageId × Frame) → Type 0
Changes p f old new = (q : PageId) → lookup (is_page q) new ≡ (if is_page p q then f else lookup (is_page q) old)

-- what every page shows stays, also of files that don't tell where it is pinned; so do all pins, and no page comes in
pub record Stays (old new : Pooled) : Type 0 where
  pub images : IsTrue old.files.tells → img new ≡ img old
  pub held : (q : PageId) → IsPinned old q → img new q ≡ img old q
  pub pinned : pins new ≡ pins old
  pub absent : (q : PageId) → frame_of old q ≡ None → frame_of new q ≡ None
  pub later : total old.files.failures ≤ total new.files.failures
  pub frames : new.frames ≡ old.frames
  pub tells : new.files.tells ≡ old.files.tells
  pub counts : new.files.counts ≡ old.files.counts

-- what every page shows stays, and one page, which is in memory, is pinned once more
pub record PinsOnce (p : PageId) (old new : Pooled) : Type 0 where
  pub images : IsTrue old.files.tells → img new ≡ img old
  pub held : (q : PageId) → IsPinned old q → img new q ≡ img old q
  pub pinned : pins new ≡ with_pin (pins old) p
  pub there : IsPooled new p
  pub page : IsPage (img new p)
  pub later : total old.files.failures ≤ total new.files.failures
  pub frames : new.frames ≡ old.frames
  pub tells : new.files.tells ≡ old.files.tells
  pub counts : new.files.counts ≡ old.files.counts

-- nothing but pins changes
pub record SameShown (old new : Pooled) : Type 0 where
  pub images : img new ≡ img old
  pub order : order new ≡ order old
  pub files : new.files ≡ old.files
  pub frames : new.frames ≡ old.frames

-- nothing but images changes
pub record SameHolds (old new : Pooled) : Type 0 where
  pub pinned : pins new ≡ pins old
  pub order : order new ≡ order old
  pub files : new.files ≡ old.files
  pub frames : new.frames ≡ old.frames
