-- Why a page isn't brought in.
use Rattle.std.specs.Prelude.{◌≡◌, ⊤, ℕ, None, Some, IsTrue, List, length}
use Rattle.page_base.specs.declared.numbers.PageId.{PageId}
use Rattle.page_dev.specs.Faults.{Rose, total}
use Rattle.page_fmt.specs.Faults.{fault_of}
use Rattle.buf_pool.specs.Pool.{Pooled, frame_of, img}
use Rattle.buf_pool.specs.Order.{victim}
use Rattle.buf_pool.specs.declared.refusal.FetchRefusal.{FetchRefusal}
use Rattle.buf_pool.specs.declared.refusal.FetchRefusal.TheVariants.{AllPinned, DataFault, Damaged, Memory}

-- all frames hold pinned pages
pub record IsBlocked (v : Pooled) : Type 0 where
  pub full : length v.entries ≡ v.frames
  pub pinned : victim v ≡ None

-- and the page isn't among them
pub record IsStuck (v : Pooled) (p : PageId) : Type 0 where
  pub absent : frame_of v p ≡ None
  pub blocked : IsBlocked v

-- these bytes are no page, and this is the first place that is wrong; they are the page's where the files tell
pub record IsDamage (v : Pooled) (p : PageId) (at : ℕ) : Type 0 where
  pub bytes : List ℕ
  pub are : IsTrue v.files.tells → bytes ≡ img v p
  pub fault : fault_of bytes ≡ Some at

-- a count of faults rose, and this is their sum now
pub record IsFaulty (old new : Pooled) (count : ℕ) : Type 0 where
  pub rose : Rose (total old.files.failures) (total new.files.failures)
  pub sum : count ≡ total new.files.failures

-- what may come of a write
abbrev pub IsFault : Pooled → Pooled → FetchRefusal → Type 0
IsFault old new (AllPinned pins) = ⊥
IsFault old new (DataFault count) = IsFaulty old new count
IsFault old new (Damaged at) = ⊥
IsFault old new Memory = ⊥

-- of a read
abbrev pub IsReading : Pooled → Pooled → PageId → FetchRefusal → Type 0
IsReading old new p (AllPinned pins) = ⊥
IsReading old new p (DataFault count) = IsFaulty old new count
IsReading old new p (Damaged at) = IsDamage old p at
IsReading old new p Memory = ⊤

-- and of making room
abbrev pub IsRefusedRoom : Pooled → Pooled → FetchRefusal → Type 0
IsRefusedRoom old new (AllPinned pins) = IsBlocked old × (pins ≡ old.frames)
IsRefusedRoom old new (DataFault count) = (¬ IsBlocked old) × IsFaulty old new count
IsRefusedRoom old new (Damaged at) = ⊥
IsRefusedRoom old new Memory = ⊥

-- which refusal a fetch answers
abbrev pub Refuses : Pooled → Pooled → PageId → FetchRefusal → Type 0
Refuses old new p (AllPinned pins) = IsStuck old p × (pins ≡ old.frames)
Refuses old new p (DataFault count) = (¬ IsStuck old p) × IsFaulty old new count
Refuses old new p (Damaged at) = (¬ IsStuck old p) × IsDamage old p at
Refuses old new p Memory = ¬ IsStuck old p
