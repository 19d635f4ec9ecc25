-- The last record that a snapshot owes is taken back from its sparse page.
use Rattle.std.specs.Prelude.{◌≡◌, ◌≢◌, ◌⊎◌, ◌-◌, ◌*◌, ◌≤◌, ◌<◌, ℕ, IsTrue, List, [], ◌∷◌, ◌++◌, Some}
use Rattle.page_base.specs.declared.numbers.PageId.{PageId}
use Rattle.page_base.specs.declared.numbers.SnapNo.{SnapNo}
use Rattle.page_base.specs.Slots.{with_slot}
use Rattle.page_dev.specs.Faults.{Rose}
use Rattle.page_dev.specs.Files.{called}
use Rattle.page_fmt.specs.Spelling.{used}
use Rattle.page_fmt.specs.Content.{content, IsPage}
use Rattle.page_fmt.specs.Edits.{edited}
use Rattle.page_fmt.specs.Faults.{fault_of}
use Rattle.rec_log.specs.Records.{Record}
use Rattle.buf_pool.specs.Steps.{SameShown}
use Rattle.sparse_set.specs.Sparse.{sparse_page, faults}
use Rattle.snap_pages.specs.Shown.{Shown, set_of, owes_of}
use Rattle.snap_pages.specs.Slots.{slots_of}
use Rattle.snap_pages.specs.Views.{view, IsKept, KeepsViews}
use Rattle.snap_pages.specs.Dues.{NoneNewDue}
use Rattle.snap_pages.specs.Owed.{AreOwed, DropsOwed}
use Rattle.snap_pages.specs.Steps.{SamePool, SamePlaces}
use Rattle.undo_pass.specs.declared.refusal.HealRefusal.{HealRefusal}
use Rattle.undo_pass.specs.declared.refusal.HealRefusal.TheVariants.{Failed, Damaged}

-- what of the other snapshots stays, and of this one its map
pub record OthersStay (s : SnapNo) (old new : Shown) : Type 0 where
  pub sets : (k : SnapNo) → k ≢ s → set_of new k ≡ set_of old k
  pub views : (k : SnapNo) → k ≢ s → IsKept new k → IsKept old k × (view new k ≡ view old k)
  pub its : IsKept new s → IsKept old s
  pub map : (set_of new s).map ≡ (set_of old s).map
  pub places : SamePlaces old new
  pub dues : (q : PageId) → NoneNewDue old new q

-- the page's sparse file was called once
abbrev pub IsOneCall : SnapNo → PageId → Shown → Shown → Type 0
IsOneCall s p old new = (set_of new s).files.calls ≡ called (set_of old s).files.calls p.file

-- or twice
abbrev pub IsTwoCalls : SnapNo → PageId → Shown → Shown → Type 0
IsTwoCalls s p old new = (set_of new s).files.calls ≡ called (called (set_of old s).files.calls p.file) p.file

-- the slot of the last record that the snapshot owes has what stood there before; the record is dropped with its pin
pub record IsHealed (s : SnapNo) (old new : Shown) : Type 0 where
  pub drops : DropsOwed s old new
  pub owed : AreOwed new s
  pub healed : IsKept new s → slots_of (view new s) ≡ with_slot (slots_of (view old s)) drops.last.page drops.last.slot drops.last.before
  pub fits : IsTrue (set_of old s).files.tells → IsPage (sparse_page (set_of old s) drops.last.page) × (used (edited (content (sparse_page (set_of old s) drops.last.page)) drops.last.slot drops.last.before) ≤ 8192)
  pub calls : IsTwoCalls s drops.last.page old new
  pub shown : SameShown old.pool new.pool
  pub stay : OthersStay s old new

-- nothing is dropped; what the snapshot shows is open where the write failed
pub record IsUnhealed (s : SnapNo) (old new : Shown) : Type 0 where
  pub pool : SamePool old new
  pub cat : new.cat ≡ old.cat
  pub stay : OthersStay s old new

-- the image has what stood in the record's slot, which had room for it
pub record Mends (r : Record) (old new : List ℕ) : Type 0 where
  pub mended : content new ≡ edited (content old) r.slot r.before
  pub room : used (edited (content old) r.slot r.before) ≤ 8192

-- the read failed: it was the only call, and no view changed
pub record IsUnread (s : SnapNo) (p : PageId) (old new : Shown) : Type 0 where
  pub once : IsOneCall s p old new
  pub views : KeepsViews old new

-- the write behind it failed: there were two calls, and the image is the page that was read with the record taken back;
-- that page is the sparse page where its file tells
pub record IsUnwritten (s : SnapNo) (r : Record) (image : List ℕ) (old new : Shown) : Type 0 where
  pub twice : IsTwoCalls s r.page old new
  pub bytes : List ℕ
  pub are : IsTrue (set_of old s).files.tells → bytes ≡ sparse_page (set_of old s) r.page
  pub page : IsPage bytes
  pub mends : Mends r bytes image

-- a call failed, the read or the write behind it: the count of faults rose
pub record IsLost (s : SnapNo) (r : Record) (image : List ℕ) (old new : Shown) : Type 0 where
  pub rose : Rose (faults (set_of old s)) (faults (set_of new s))
  pub failed : IsUnread s r.page old new ⊎ IsUnwritten s r image old new

-- the page was read once, and no view changed; the bytes that were read are the sparse page's where its file tells, and
-- they are no page, or the record's slot has no room on them for what stood there; this is the place
pub record IsDamage (s : SnapNo) (r : Record) (old new : Shown) (at : ℕ) : Type 0 where
  pub once : IsOneCall s r.page old new
  pub views : KeepsViews old new
  pub bytes : List ℕ
  pub are : IsTrue (set_of old s).files.tells → bytes ≡ sparse_page (set_of old s) r.page
  pub fault : (fault_of bytes ≡ Some at) ⊎ (IsPage bytes × (8192 < used (edited (content bytes) r.slot r.before)) × (at ≡ 8190 - 2 * r.slot))

-- what a refusal tells, of the last record and the image that is left
abbrev pub HealRefusedOn : SnapNo → Record → List ℕ → Shown → Shown → HealRefusal → Type 0
HealRefusedOn s r image old new Failed = IsLost s r image old new
HealRefusedOn s r image old new (Damaged at) = IsDamage s r old new at

-- which refusal is answered
abbrev pub HealRefused : SnapNo → List ℕ → Shown → Shown → HealRefusal → Type 0
HealRefused s image old new refusal = (front : List Record) (r : Record) → owes_of old s ≡ front ++ r ∷ [] → HealRefusedOn s r image old new refusal
