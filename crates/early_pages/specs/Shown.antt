-- The source's pages, and the snapshots over them.
use Rattle.std.specs.Prelude.{◌≡◌, ℕ, ◌<◌, List, length, slice_index}
use Rattle.page_base.specs.declared.numbers.PageId.{PageId}
use Rattle.page_base.specs.declared.numbers.SnapNo.{SnapNo}
use Rattle.page_base.specs.Pages.{Pages, image_at, shape}
use Rattle.early_pages.specs.Sparse.{Sparse}
use Rattle.early_pages.specs.Catalog.{Catalog, snap_at, HasSnap}
use Rattle.early_pages.specs.declared.state.SnapState.{SnapState}

pub record Shown : Type 0 where
  pub images : Pages (List ℕ)
  pub cat : Catalog

-- the image of a source page
abbrev pub img : Shown → PageId → List ℕ
img v p = image_at v.images p

-- how many pages each of the source's files has
abbrev pub counts : Shown → List ℕ
counts v = shape v.images

-- the source has this page
abbrev pub IsThere : Shown → PageId → Type 0
IsThere v p = p.page < slice_index (counts v) p.file

-- the snapshots
abbrev pub catalog : Shown → Catalog
catalog v = v.cat

-- how many snapshots there are
abbrev pub count : Shown → ℕ
count v = length (catalog v).snaps

-- there is a snapshot at this place
abbrev pub IsOpen : Shown → SnapNo → Type 0
IsOpen v s = HasSnap (catalog v) s

-- a snapshot's sparse files
abbrev pub set_of : Shown → SnapNo → Sparse
set_of v s = (snap_at (catalog v) s).set

-- a snapshot's state; a place that no snapshot has counts as suspect
abbrev pub state_of : Shown → SnapNo → SnapState
state_of v s = (snap_at (catalog v) s).state

-- the number of a snapshot's cut
abbrev pub cut_of : Shown → SnapNo → ℕ
cut_of v s = (snap_at (catalog v) s).cut

-- other snapshots over the same pages
abbrev pub with_catalog : Shown → Catalog → Shown
with_catalog v cat = record v { cat = cat }

-- each snapshot has as many sparse files as the source has files, with as many pages
pub record IsWhole (v : Shown) : Type 0 where
  pub alike : (s : SnapNo) → IsOpen v s → (set_of v s).files.counts ≡ counts v
