-- The source's pages, and the snapshots over them.
use Rattle.std.specs.Prelude.{◌≡◌, ℕ, ◌<◌, List, [], length, slice_index, slice_index_or, slice_set}
use Rattle.page_base.specs.declared.numbers.PageId.{PageId}
use Rattle.page_base.specs.declared.numbers.SnapNo.{SnapNo}
use Rattle.page_dev.specs.Files.{Files}
use Rattle.rec_log.specs.Records.{Record}
use Rattle.buf_pool.specs.Pool.{Pooled, unused, img as pool_img, pins as pool_pins}
use Rattle.sparse_set.specs.Sparse.{Sparse, no_set}
use Rattle.snap_cat.specs.declared.snapshot.SnapState.{SnapState}
use Rattle.snap_cat.specs.Catalog.{Catalog, empty, snap_at, HasSnap}

-- the data files' pages, the snapshots in order of their cuts, and the sparse files of each
pub record Shown : Type 0 where
  pub pool : Pooled
  pub cat : Catalog
  pub sets : List Sparse

-- these files with no page in memory, and no snapshot
abbrev pub unshared : Files → ℕ → ℕ → Shown
unshared files frames next_cut = record { pool = unused files frames; cat = empty next_cut; sets = [] }

-- the image of a source page
abbrev pub img : Shown → PageId → List ℕ
img v = pool_img v.pool

-- how often a source page is pinned
abbrev pub pins : Shown → PageId → ℕ
pins v = pool_pins v.pool

-- the source page is pinned, and so in memory
abbrev pub IsPinned : Shown → PageId → Type 0
IsPinned v p = 0 < pins v p

-- how many pages each of the source's files has
abbrev pub counts : Shown → List ℕ
counts v = v.pool.files.counts

-- the source has this page
abbrev pub IsThere : Shown → PageId → Type 0
IsThere v p = p.page < slice_index (counts v) p.file

-- the snapshots
abbrev pub catalog : Shown → Catalog
catalog v = v.cat

-- how many snapshots there are
abbrev pub count : Shown → ℕ
count v = length (catalog v).snaps

-- there is a snapshot at this place
abbrev pub IsOpen : Shown → SnapNo → Type 0
IsOpen v s = HasSnap (catalog v) s

-- a snapshot's sparse files
abbrev pub set_of : Shown → SnapNo → Sparse
set_of v s = slice_index_or v.sets s.0 no_set

-- a snapshot's state; a place that no snapshot has counts as suspect
abbrev pub state_of : Shown → SnapNo → SnapState
state_of v s = (snap_at (catalog v) s).state

-- the number of a snapshot's cut
abbrev pub cut_of : Shown → SnapNo → ℕ
cut_of v s = (snap_at (catalog v) s).cut

-- the records that are still to be taken back from a snapshot's pages
abbrev pub owes_of : Shown → SnapNo → List Record
owes_of v s = (snap_at (catalog v) s).owed.recs

-- only the catalog differs
abbrev pub with_catalog : Shown → Catalog → Shown
with_catalog v cat = record v { cat = cat }

-- only this snapshot's sparse files differ
abbrev pub with_set : Shown → SnapNo → Sparse → Shown
with_set v s set = record v { sets = slice_set v.sets s.0 set }

-- each snapshot has its sparse files: as many as the source has files, with as many pages
pub record IsWhole (v : Shown) : Type 0 where
  pub many : length v.sets ≡ count v
  pub alike : (s : SnapNo) → IsOpen v s → (set_of v s).files.counts ≡ counts v
