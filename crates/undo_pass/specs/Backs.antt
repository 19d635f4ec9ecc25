-- A transaction's last record is taken back from the source's page.
use Rattle.std.specs.Prelude.{◌≡◌, ◌+◌, ◌≤◌, ◌<◌, [], ◌∷◌, ◌++◌}
use Rattle.page_base.specs.Pages.{set_at}
use Rattle.page_fmt.specs.Spelling.{used}
use Rattle.page_fmt.specs.Content.{content, IsPage}
use Rattle.page_fmt.specs.Edits.{edited}
use Rattle.rec_log.specs.Records.{Record, WorkOf}
use Rattle.buf_pool.specs.Pool.{without_pin}
use Rattle.buf_pool.specs.Order.{order}
use Rattle.snap_pages.specs.Shown.{Shown, img, pins}
use Rattle.snap_pages.specs.Slots.{SetsSlot}
use Rattle.snap_pages.specs.Views.{KeepsViews}
use Rattle.snap_pages.specs.Steps.{SameSnaps, SamePlaces}

-- the record's slot has what stood there before, where that fits, and its page has a pin less
pub record TakesBack (r : Record) (old new : Shown) : Type 0 where
  pub fits : used (edited (content (img old r.page)) r.slot r.before) ≤ 8192 → SetsSlot old new r.page r.slot r.before
  pub full : 8192 < used (edited (content (img old r.page)) r.slot r.before) → img new ≡ img old
  pub only : img new ≡ set_at (img old) r.page (img new r.page)
  pub page : IsPage (img new r.page)
  pub pinned : pins new ≡ without_pin (pins old) r.page
  pub order : order new.pool ≡ order old.pool
  pub files : new.pool.files ≡ old.pool.files
  pub frames : new.pool.frames ≡ old.pool.frames
  pub snaps : SameSnaps old new
  pub places : SamePlaces old new
  pub views : KeepsViews old new

-- the last record of the transaction is taken back and dropped, and its room is kept
pub record IsBack (old new : Shown) (work left : WorkOf) : Type 0 where
  pub last : Record
  pub was : work.recs ≡ left.recs ++ last ∷ []
  pub spare : left.spare ≡ work.spare + 1
  pub back : TakesBack last old new
