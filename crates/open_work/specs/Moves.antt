-- A session changes a slot and keeps the record, or takes its last record back.
use Rattle.std.specs.Prelude.{ℕ, ◌≡◌, ◌≢◌, ◌<◌, [], ◌∷◌, ◌++◌}
use Rattle.page_base.specs.Slots.{Slots, with_slot}
use Rattle.rec_log.specs.Records.{Record}
use Rattle.rec_log.specs.Undone.{LacksSlot}
use Rattle.open_work.specs.Open.{Parts}

-- session k, one of n, has one record more, of a slot of which no other session has one
pub record HasMore (n k : ℕ) (work more : Parts) (r : Record) : Type 0 where
  pub there : k < n
  pub own : more k ≡ work k ++ r ∷ []
  pub others : (j : ℕ) → j ≢ k → more j ≡ work j
  pub apart : (j : ℕ) → j ≢ k → LacksSlot (work j) r.page r.slot

-- it changes the record's slot, and keeps the record
pub record Changes (n k : ℕ) (work more : Parts) (r : Record) (old new : Slots) : Type 0 where
  pub has : HasMore n k work more r
  pub was : old r.page r.slot ≡ r.before
  pub is : new ≡ with_slot old r.page r.slot r.after

-- it takes its last record back, where its change stands
pub record TakesBack (n k : ℕ) (work less : Parts) (r : Record) (old new : Slots) : Type 0 where
  pub has : HasMore n k less work r
  pub stood : old r.page r.slot ≡ r.after
  pub is : new ≡ with_slot old r.page r.slot r.before
