-- The steps by which a sparse page is healed: it is read, its slot is edited in memory, and it is written.
use Rattle.std.specs.Prelude.{◌≡◌, ◌-◌, ◌*◌, ◌≤◌, ◌<◌, ℕ, IsTrue, List, Some}
use Rattle.page_base.specs.declared.numbers.PageId.{PageId}
use Rattle.page_base.specs.declared.numbers.SnapNo.{SnapNo}
use Rattle.page_dev.specs.Faults.{Rose}
use Rattle.page_fmt.specs.Spelling.{used}
use Rattle.page_fmt.specs.Content.{content}
use Rattle.page_fmt.specs.Edits.{edited}
use Rattle.page_fmt.specs.Faults.{fault_of}
use Rattle.rec_log.specs.Records.{Record}
use Rattle.sparse_set.specs.Sparse.{sparse_page, faults}
use Rattle.snap_pages.specs.Shown.{Shown, set_of}
use Rattle.snap_pages.specs.Views.{KeepsViews}
use Rattle.snap_pages.specs.Steps.{SamePool}
use Rattle.undo_pass.specs.declared.refusal.HealRefusal.{HealRefusal}
use Rattle.undo_pass.specs.declared.refusal.HealRefusal.TheVariants.{Failed, Damaged}
use Rattle.undo_pass.specs.Heals.{OthersStay, IsOneCall}

-- the page was read by one call on its file, and every view stays
pub record ReadsOnce (s : SnapNo) (p : PageId) (old new : Shown) : Type 0 where
  pub pool : SamePool old new
  pub cat : new.cat ≡ old.cat
  pub stay : OthersStay s old new
  pub views : KeepsViews old new
  pub calls : IsOneCall s p old new
  pub later : faults (set_of old s) ≤ faults (set_of new s)

-- bytes that were read have this fault; they are the sparse page's where its file tells
pub record IsNoPage (s : SnapNo) (p : PageId) (old : Shown) (at : ℕ) : Type 0 where
  pub bytes : List ℕ
  pub are : IsTrue (set_of old s).files.tells → bytes ≡ sparse_page (set_of old s) p
  pub fault : fault_of bytes ≡ Some at

-- why it isn't read
abbrev pub ReadRefused : SnapNo → PageId → Shown → Shown → HealRefusal → Type 0
ReadRefused s p old new Failed = Rose (faults (set_of old s)) (faults (set_of new s))
ReadRefused s p old new (Damaged at) = IsNoPage s p old at

-- the record's slot had no room on the image for what stood there
abbrev pub MendRefused : Record → List ℕ → HealRefusal → Type 0
MendRefused r image Failed = ⊥
MendRefused r image (Damaged at) = (8192 < used (edited (content image) r.slot r.before)) × (at ≡ 8190 - 2 * r.slot)
