-- Where an edit stands among others.
use Rattle.std.specs.Prelude.{ℕ, ◌≡◌, List, ◌∷◌, ◌++◌, length}
use Rattle.table_walk.specs.declared.plan.Edit.{Edit}
use Rattle.table_walk.specs.declared.plan.Spot.{Spot}
use Rattle.table_walk.specs.Differences.{edit_at}

-- the edit at this place is of a row, and writes these bytes alone
pub record IsPlacedAt (edits : List Edit) (bytes : List ℕ) (at : ℕ) : Type 0 where
  pub before : List Edit
  pub later : List Edit
  pub spot : Spot
  pub slot : ℕ
  pub are : edits ≡ before ++ edit_at spot (slot, bytes) ∷ later
  pub place : length before ≡ at
