-- What calls leave as it was.
use Rattle.std.specs.Prelude.{◌≡◌, ◌≢◌}
use Rattle.page_base.specs.declared.numbers.PageId.{PageId}
use Rattle.page_base.specs.declared.numbers.SnapNo.{SnapNo}
use Rattle.page_dev.specs.Files.{called}
use Rattle.snap_pages.specs.Shown.{Shown, counts, count, set_of, with_set}
use Rattle.snap_pages.specs.Cuts.{place_of}

-- the source's pages, pins and files stay as they are
abbrev pub SamePool : Shown → Shown → Type 0
SamePool old new = new.pool ≡ old.pool

-- the snapshots and their sparse files stay as they are
pub record SameSnaps (old new : Shown) : Type 0 where
  pub cat : new.cat ≡ old.cat
  pub sets : new.sets ≡ old.sets

-- the source has the same pages, and each snapshot the place that it had
pub record SamePlaces (old new : Shown) : Type 0 where
  pub counts : counts new ≡ counts old
  pub count : count new ≡ count old
  pub places : place_of new ≡ place_of old

-- only this snapshot's sparse files change
pub record ChangesSet (s : SnapNo) (old new : Shown) : Type 0 where
  pub is : new ≡ with_set old s (set_of new s)
  pub others : (k : SnapNo) → k ≢ s → set_of new k ≡ set_of old k
  pub pool : SamePool old new
  pub cat : new.cat ≡ old.cat

-- this page's sparse file of this snapshot was called once, and no other file
pub record CallsOnce (s : SnapNo) (p : PageId) (old new : Shown) : Type 0 where
  pub here : (set_of new s).files.calls ≡ called (set_of old s).files.calls p.file
  pub others : (k : SnapNo) → k ≢ s → (set_of new k).files.calls ≡ (set_of old k).files.calls
  pub source : new.pool.files.calls ≡ old.pool.files.calls
