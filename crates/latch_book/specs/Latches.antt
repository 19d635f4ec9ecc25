-- Who holds which page in which mode.
use Rattle.std.specs.Prelude.{◌≡◌, ◌≢◌, ◌<◌, ◌≤◌, List, Option, None, Some, IsTrue, length, replicate, slice_index_or, slice_set}
use Rattle.page_base.specs.declared.numbers.PageId.{PageId}
use Rattle.page_base.specs.declared.numbers.SessNo.{SessNo}
use Rattle.latch_book.specs.declared.latch.Latch.{Latch}
use Rattle.latch_book.specs.declared.latch.LatchMode.{LatchMode}
use Rattle.latch_book.specs.declared.latch.LatchMode.TheVariants.{Ex}
use Rattle.latch_book.specs.Modes.{conflicts}

-- for each session, at the place of its number, the one latch that it holds; place 0 is nobody's
abbrev pub Latches : Type 0
Latches = List (Option Latch)

-- the number of a session
pub record IsSession (who : SessNo) : Type 0 where
  pub first : 1 ≤ who.0
  pub last : who.0 ≤ 64

-- the latch that a session holds
abbrev pub latch_of : Latches → SessNo → Option Latch
latch_of latches who = slice_index_or latches who.0 None

-- the session holds this page in this mode
abbrev pub Holds : Latches → SessNo → PageId → LatchMode → Type 0
Holds latches who p mode = latch_of latches who ≡ Some (record { page = p; mode = mode })

-- nobody holds a page
unfoldable pub no_latches : Latches
no_latches = replicate 65 None

-- the session holds this page in this mode, all else as before
abbrev pub with_latch : Latches → SessNo → PageId → LatchMode → Latches
with_latch latches who p mode = slice_set latches who.0 (Some (record { page = p; mode = mode }))

-- the session holds no page, all else as before
abbrev pub without_latch : Latches → SessNo → Latches
without_latch latches who = slice_set latches who.0 None

-- a page has no holder, one EX holder, or SH holders, and the holders are sessions
pub record IsLatchBook (latches : Latches) : Type 0 where
  pub places : length latches ≡ 65
  pub nobody : slice_index_or latches 0 None ≡ None
  pub alone : (j k : SessNo) (p : PageId) (mode : LatchMode) → Holds latches j p Ex → Holds latches k p mode → j ≡ k

-- session k is another one, and holds the page in a mode that conflicts
pub record IsInTheWay (latches : Latches) (who : SessNo) (p : PageId) (mode : LatchMode) (k : SessNo) : Type 0 where
  pub other : k ≢ who
  pub held : LatchMode
  pub holds : Holds latches k p held
  pub conflict : IsTrue (conflicts held mode)

-- no session is in the way
abbrev pub IsFree : Latches → SessNo → PageId → LatchMode → Type 0
IsFree latches who p mode = (k : SessNo) → ¬ IsInTheWay latches who p mode k

-- session k is in the way, and none below it is
pub record IsLowestInTheWay (latches : Latches) (who : SessNo) (p : PageId) (mode : LatchMode) (k : SessNo) : Type 0 where
  pub there : IsInTheWay latches who p mode k
  pub lowest : (j : SessNo) → j.0 < k.0 → ¬ IsInTheWay latches who p mode j
