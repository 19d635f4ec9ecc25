-- What readers of snapshots see, and what keeps it.
use Rattle.std.specs.Prelude.{◌≡◌, ◌≢◌, ℕ, ◌<◌, ◌⊎◌, true, false, if◌then◌else◌, IsTrue, List}
use Rattle.page_base.specs.declared.numbers.PageId.{PageId}
use Rattle.page_base.specs.declared.numbers.SnapNo.{SnapNo}
use Rattle.early_pages.specs.Sparse.{Sparse, is_copied, sparse_page}
use Rattle.early_pages.specs.Catalog.{former}
use Rattle.early_pages.specs.Shown.{Shown, img, set_of, state_of, cut_of, count}
use Rattle.early_pages.specs.declared.state.SnapState.TheVariants.{Suspect}

-- a page of these sparse files over these images: the copy where there is one, else the image
unfoldable pub seen : (PageId → List ℕ) → Sparse → PageId → List ℕ
seen images set p = if is_copied set p then sparse_page set p else images p

-- a page of a snapshot
abbrev pub view : Shown → SnapNo → PageId → List ℕ
view v s = seen (img v) (set_of v s)

-- the view of this snapshot is promised: it isn't suspect, and its files tell what they hold
pub record IsKept (v : Shown) (s : SnapNo) : Type 0 where
  pub sound : state_of v s ≢ Suspect
  pub tells : IsTrue (set_of v s).files.tells

-- each view that is promised was promised before, and is the same
pub record KeepsViews (old new : Shown) : Type 0 where
  pub each : (s : SnapNo) → IsKept new s → IsKept old s × (view new s ≡ view old s)

-- each view that is promised was promised before and is the same, or it is that of the new snapshot, which sees the source
abbrev pub CutsView : Shown → Shown → Type 0
CutsView old new = (s : SnapNo) → IsKept new s → (IsKept old s × (view new s ≡ view old s)) ⊎ ((s.0 ≡ count old) × (view new s ≡ img old))

-- each view that is promised was promised before and is the same, at the place that the snapshot of this cut had before
abbrev pub ClosesUp : SnapNo → Shown → Shown → Type 0
ClosesUp gone old new = (s : SnapNo) → IsKept new s → IsKept old (former gone s) × (view new s ≡ view old (former gone s)) × (cut_of new s ≡ cut_of old (former gone s))

-- the page has to be pushed to the snapshot before it changes
pub record IsDue (v : Shown) (p : PageId) (s : SnapNo) : Type 0 where
  pub sound : state_of v s ≢ Suspect
  pub uncopied : is_copied (set_of v s) p ≡ false

-- every snapshot that isn't suspect has the page
abbrev pub IsPushed : Shown → PageId → Type 0
IsPushed v p = (s : SnapNo) → state_of v s ≢ Suspect → is_copied (set_of v s) p ≡ true

-- the lowest snapshot to which the page has to be pushed
pub record IsFirstDue (v : Shown) (p : PageId) (s : SnapNo) : Type 0 where
  pub due : IsDue v p s
  pub first : (k : SnapNo) → k.0 < s.0 → ¬ IsDue v p k

-- nothing becomes due
pub record NoneNewDue (old new : Shown) (p : PageId) : Type 0 where
  pub each : (s : SnapNo) → IsDue new p s → IsDue old p s
