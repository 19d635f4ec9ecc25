-- The pages in memory over the data files.
use Rattle.std.specs.Prelude.{◌≡◌, ℕ, ◌+◌, ◌-◌, ◌^◌, ◌<◌, Bool, true, false, if◌then◌else◌, IsTrue, List, [], slice_index, Option, is_some}
use Rattle.std.specs.Option.{option_map_or}
use Rattle.std.specs.Map.{lookup}
use Rattle.page_base.specs.declared.numbers.PageId.{PageId}
use Rattle.page_base.specs.Pages.{image_at, is_page}
use Rattle.page_fmt.specs.Content.{IsPage}
use Rattle.page_dev.specs.Files.{Files}
use Rattle.buf_pool.specs.declared.frame.Frame.{Frame}

-- the data files, the pages in memory, the most recently used first, and how many there may be
pub record Pooled : Type 0 where
  pub files : Files
  pub entries : List (PageId × Frame)
  pub frames : ℕ

-- a pool with no page in memory yet
abbrev pub unused : Files → ℕ → Pooled
unused files frames = record { files = files; entries = []; frames = frames }

-- the frame of a page
abbrev pub frame_of : Pooled → PageId → Option Frame
frame_of v p = lookup (is_page p) v.entries

-- the page is in memory
abbrev pub IsPooled : Pooled → PageId → Type 0
IsPooled v p = is_some (frame_of v p) ≡ true

-- the page as its users see it: its image in memory, else the file's page
abbrev pub img : Pooled → PageId → List ℕ
img v p = option_map_or (λ f. f.image) (frame_of v p) (image_at v.files.content p)

-- how often a page is pinned
abbrev pub pins : Pooled → PageId → ℕ
pins v p = option_map_or (λ f. f.pins) (frame_of v p) 0

-- the page is pinned, and so in memory
abbrev pub IsPinned : Pooled → PageId → Type 0
IsPinned v p = 0 < pins v p

-- whether its image may differ from the file's page
abbrev pub is_dirty : Pooled → PageId → Bool
is_dirty v p = option_map_or (λ f. f.dirty) (frame_of v p) false

-- one page is pinned once more
abbrev pub with_pin : (PageId → ℕ) → PageId → PageId → ℕ
with_pin pins p q = if is_page p q then pins q + 1 else pins q

-- or once less
abbrev pub without_pin : (PageId → ℕ) → PageId → PageId → ℕ
without_pin pins p q = if is_page p q then pins q - 1 else pins q

-- each page in memory is one of the files and a page of the format, and one that isn't dirty is the file's
pub record IsSound (v : Pooled) : Type 0 where
  pub few : v.frames < 2 ^ 32
  pub there : (p : PageId) → IsPooled v p → p.page < slice_index v.files.counts p.file
  pub spelled : (p : PageId) → IsPooled v p → IsPage (img v p)
  pub clean : IsTrue v.files.tells → (p : PageId) → is_dirty v p ≡ false → img v p ≡ image_at v.files.content p
