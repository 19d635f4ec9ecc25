-- What readers of snapshots see, and what keeps it.
use Rattle.std.specs.Prelude.{◌≡◌, ◌≢◌, ◌⊎◌, if◌then◌else◌, IsTrue, List, ℕ, Result, OnOk}
use Rattle.page_base.specs.declared.numbers.PageId.{PageId}
use Rattle.page_base.specs.declared.numbers.SnapNo.{SnapNo}
use Rattle.page_base.specs.Pages.{set_at}
use Rattle.sparse_set.specs.Sparse.{Sparse, is_copied, sparse_page}
use Rattle.snap_cat.specs.Catalog.{former}
use Rattle.snap_cat.specs.declared.snapshot.SnapState.TheVariants.{Suspect}
use Rattle.snap_pages.specs.declared.place.Place.{Place}
use Rattle.snap_pages.specs.declared.place.Place.TheVariants.{Sparse as InSparse, Through}
use Rattle.snap_pages.specs.Shown.{Shown, img, set_of, state_of, cut_of, count}

-- a page of these sparse files over these images: the copy where there is one, else the image
unfoldable pub seen : (PageId → List ℕ) → Sparse → PageId → List ℕ
seen images set p = if is_copied set p then sparse_page set p else images p

-- where a reader of these sparse files finds a page
abbrev pub looked : Sparse → PageId → Place
looked set p = if is_copied set p then InSparse else Through

-- a page of a snapshot
abbrev pub view : Shown → SnapNo → PageId → List ℕ
view v s = seen (img v) (set_of v s)

-- the view of this snapshot is promised: it isn't suspect, and its files and the source's tell what they hold
pub record IsKept (v : Shown) (s : SnapNo) : Type 0 where
  pub sound : state_of v s ≢ Suspect
  pub tells : IsTrue (set_of v s).files.tells
  pub source : IsTrue v.pool.files.tells

-- each view that is promised was promised before, and is the same
pub record KeepsViews (old new : Shown) : Type 0 where
  pub each : (s : SnapNo) → IsKept new s → IsKept old s × (view new s ≡ view old s)

-- each view that is promised was promised before and is the same, or it is that of the new snapshot, which has these
-- sparse files over the source
abbrev pub OpensView : Sparse → Shown → Shown → Type 0
OpensView set old new = (s : SnapNo) → IsKept new s → (IsKept old s × (view new s ≡ view old s)) ⊎ ((s.0 ≡ count old) × (view new s ≡ seen (img old) set))

-- each view that is promised was promised before and is the same, or it is that of the new snapshot, which sees the source
abbrev pub CutsView : Shown → Shown → Type 0
CutsView old new = (s : SnapNo) → IsKept new s → (IsKept old s × (view new s ≡ view old s)) ⊎ ((s.0 ≡ count old) × (view new s ≡ img old))

-- each view that is promised was promised before and is the same, at the place that the snapshot of this cut had before
abbrev pub ClosesUp : SnapNo → Shown → Shown → Type 0
ClosesUp gone old new = (s : SnapNo) → IsKept new s → IsKept old (former gone s) × (view new s ≡ view old (former gone s)) × (cut_of new s ≡ cut_of old (former gone s))

-- a page of one snapshot was written: of the views that are promised its own has the bytes there, or any where the write
-- failed, and is the same at all other pages; the others are the same
pub record WritesView {T E : Type 0} (s : SnapNo) (p : PageId) (bytes : List ℕ) (old new : Shown) (result : Result T E) : Type 0 where
  pub others : (k : SnapNo) → k ≢ s → IsKept new k → IsKept old k × (view new k ≡ view old k)
  pub its : IsKept new s → IsKept old s
  pub elsewhere : IsKept new s → (q : PageId) → q ≢ p → view new s q ≡ view old s q
  pub written : IsKept new s → OnOk result (view new s ≡ set_at (view old s) p bytes)
