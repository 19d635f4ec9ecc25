-- How many reads and writes of the files each call makes: none is tried again.
use Rattle.std.specs.Prelude.{◌≡◌, ◌==◌, ◌⊎◌, if◌then◌else◌, ℕ, List, length, Option, None, Some}
use Rattle.page_base.specs.declared.numbers.PageId.{PageId}
use Rattle.page_dev.specs.Files.{called}
use Rattle.buf_pool.specs.Pool.{Pooled, is_dirty}
use Rattle.buf_pool.specs.Order.{order, victim, room_made}
use Rattle.buf_pool.specs.declared.refusal.FetchRefusal.{FetchRefusal}
use Rattle.buf_pool.specs.declared.refusal.FetchRefusal.TheVariants.{AllPinned, DataFault, Damaged, Memory}

-- a page is saved: one write of its file where it is dirty
abbrev pub save_calls : Pooled → PageId → List ℕ
save_calls v p = if is_dirty v p then called v.files.calls p.file else v.files.calls

-- the same of a page that may be none
abbrev pub saving_calls : Pooled → Option PageId → List ℕ
saving_calls v None = v.files.calls
saving_calls v (Some p) = save_calls v p

-- a frame is made free where none is: one write where the page that gives way is dirty
abbrev pub room_calls : Pooled → List ℕ
room_calls v = if length v.entries == v.frames then saving_calls v (victim v) else v.files.calls

-- and then the page is read once
abbrev pub read_calls : Pooled → PageId → List ℕ
read_calls v p = called (room_calls v) p.file

-- no call was made but the write of the page that was to give way, where it is dirty, and no page is out
pub record EndsWriting (old new : Pooled) : Type 0 where
  pub calls : new.files.calls ≡ room_calls old
  pub kept : order new ≡ order old

-- a frame was free or made so, and the page wasn't read
pub record EndsUnread (old new : Pooled) : Type 0 where
  pub calls : new.files.calls ≡ room_calls old
  pub out : order new ≡ room_made old

-- it was read
pub record EndsRead (old new : Pooled) (p : PageId) : Type 0 where
  pub calls : new.files.calls ≡ read_calls old p
  pub out : order new ≡ room_made old

-- which calls were made where a page wasn't brought in, and which page is out
abbrev pub RefusedCalls : Pooled → Pooled → PageId → FetchRefusal → Type 0
RefusedCalls old new p (AllPinned pins) = (new.files.calls ≡ old.files.calls) × (order new ≡ order old)
RefusedCalls old new p (DataFault count) = EndsWriting old new ⊎ EndsRead old new p
RefusedCalls old new p (Damaged at) = EndsRead old new p
RefusedCalls old new p Memory = EndsUnread old new ⊎ EndsRead old new p

-- those of a read
abbrev pub ReadingCalls : Pooled → Pooled → PageId → FetchRefusal → Type 0
ReadingCalls old new p (AllPinned pins) = ⊥
ReadingCalls old new p (DataFault count) = new.files.calls ≡ called old.files.calls p.file
ReadingCalls old new p (Damaged at) = new.files.calls ≡ called old.files.calls p.file
ReadingCalls old new p Memory = new.files.calls ≡ old.files.calls
