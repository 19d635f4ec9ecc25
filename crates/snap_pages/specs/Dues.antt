-- To which snapshots a page has to be pushed before it changes.
use Rattle.std.specs.Prelude.{◌≡◌, ◌≢◌, ◌<◌, Bool, true, false, not, ◌&&◌, Option}
use Rattle.page_base.specs.declared.numbers.PageId.{PageId}
use Rattle.page_base.specs.declared.numbers.SnapNo.{SnapNo}
use Rattle.sparse_set.specs.Sparse.{is_copied}
use Rattle.snap_cat.specs.declared.snapshot.SnapState.{SnapState}
use Rattle.snap_cat.specs.declared.snapshot.SnapState.TheVariants.{Making, Online, Suspect}
use Rattle.snap_pages.specs.Shown.{Shown, set_of, state_of, count}
use Rattle.snap_pages.specs.Places.{first_from}

-- the page has to be pushed to the snapshot before it changes
pub record IsDue (v : Shown) (p : PageId) (s : SnapNo) : Type 0 where
  pub sound : state_of v s ≢ Suspect
  pub uncopied : is_copied (set_of v s) p ≡ false

-- every snapshot that isn't suspect has the page
abbrev pub IsPushed : Shown → PageId → Type 0
IsPushed v p = (s : SnapNo) → state_of v s ≢ Suspect → is_copied (set_of v s) p ≡ true

-- the lowest snapshot to which the page has to be pushed
pub record IsFirstDue (v : Shown) (p : PageId) (s : SnapNo) : Type 0 where
  pub due : IsDue v p s
  pub first : (k : SnapNo) → k.0 < s.0 → ¬ IsDue v p k

-- nothing becomes due
pub record NoneNewDue (old new : Shown) (p : PageId) : Type 0 where
  pub each : (s : SnapNo) → IsDue new p s → IsDue old p s

-- whether a snapshot in this state isn't suspect
abbrev pub is_sound : SnapState → Bool
is_sound Making = true
is_sound Online = true
is_sound Suspect = false

-- whether the page has to be pushed to the snapshot
abbrev pub is_due : Shown → PageId → SnapNo → Bool
is_due v p s = is_sound (state_of v s) && not (is_copied (set_of v s) p)

-- the lowest snapshot to which the page has to be pushed, if there is one
unfoldable pub next_due : Shown → PageId → Option SnapNo
next_due v p = first_from (is_due v p) 0 (count v)
