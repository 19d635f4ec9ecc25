-- A record of one slot's change, and a transaction's list of them.
use Rattle.std.specs.Prelude.{ℕ, ◌<◌, ◌≤◌, List, length}
use Rattle.page_base.specs.declared.limits.TheConstants.{MAX_SLOTS, MAX_SLOT_BYTES}
use Rattle.page_base.specs.declared.numbers.PageId.{PageId}

-- which slot, what stood there and what stands there now
pub record Record : Type 0 where
  pub page : PageId
  pub slot : ℕ
  pub before : List ℕ
  pub after : List ℕ

-- a page has 4,048 slots at most, and 8,094 bytes are the longest that one can hold
pub record IsRecord (r : Record) : Type 0 where
  pub slot : r.slot < MAX_SLOTS
  pub before : length r.before ≤ MAX_SLOT_BYTES
  pub after : length r.after ≤ MAX_SLOT_BYTES

-- records in the order of the changes, and how many more there is room for
pub record WorkOf : Type 0 where
  pub recs : List Record
  pub spare : ℕ
