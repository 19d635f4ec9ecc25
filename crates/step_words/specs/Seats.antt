-- What the engine keeps of a session: where it stands, its records, what it holds, and what it remembers between steps.
use Rattle.std.specs.Prelude.{ℕ, zero, suc, List, [], length, Option, Some, None, slice_index_or, slice_set}
use Rattle.page_base.specs.declared.numbers.PageId.{PageId}
use Rattle.page_base.specs.declared.numbers.TableNo.{TableNo}
use Rattle.latch_book.specs.declared.latch.Latch.{Latch}
use Rattle.latch_book.specs.declared.latch.LatchMode.{LatchMode}
use Rattle.rec_log.specs.Records.{WorkOf}
use Rattle.step_words.specs.Sittings.{Sitting, no_sitting}

-- what a session holds of a page: nothing, its latch, or its latch and a pin
pub data Grip : Type 0 where
  Free : Grip
  Latched : (page : PageId) (mode : LatchMode) → Grip
  Fetched : (page : PageId) (mode : LatchMode) → Grip

-- the latch of it
abbrev pub latch_at : Grip → Option Latch
latch_at Free = None
latch_at (Latched p mode) = Some (record { page = p; mode = mode })
latch_at (Fetched p mode) = Some (record { page = p; mode = mode })

-- a page that was gathered for a revert, and its image
pub record Gathered : Type 0 where
  pub page : PageId
  pub image : List ℕ

pub record Seated : Type 0 where
  pub sitting : Sitting
  pub work : WorkOf
  -- how many of its records are of earlier statements
  pub base : ℕ
  -- the history's length when its statement began
  pub began : ℕ
  pub hold : Grip
  -- how many allocation pages its claim has passed
  pub alloc : ℕ
  -- the cut of the snapshot to which it has copied a page, until that is marked
  pub copied : Option ℕ
  -- the cut of the snapshot that it is making
  pub making : Option ℕ
  -- the tables that its statement gained in S
  pub gained : List TableNo
  -- the page of a sparse file that it has read
  pub image : List ℕ
  pub gathered : List Gathered

-- nobody's
abbrev pub no_seat : Seated
no_seat = record { sitting = no_sitting; work = record { recs = []; spare = 0 }; base = 0; began = 0; hold = Free; alloc = 0; copied = None; making = None; gained = []; image = []; gathered = [] }

-- the seat of a session; sessions are numbered from 1
abbrev pub seat_in : List Seated → ℕ → Seated
seat_in seats zero = no_seat
seat_in seats (suc k) = slice_index_or seats k no_seat

-- with another seat of session k
abbrev pub with_seat : List Seated → ℕ → Seated → List Seated
with_seat seats zero seat = seats
with_seat seats (suc k) seat = slice_set seats k seat
