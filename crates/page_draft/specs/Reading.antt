-- Where a drafted page was read.
use Rattle.std.specs.Prelude.{◌≡◌, ◌<◌, IfSome, Option, None, Some, ℕ, List, [], length, slice_index_or}
use Rattle.page_fmt.specs.Seen.{Looked}
use Rattle.table_walk.specs.declared.plan.Spot.{Spot}
use Rattle.page_draft.specs.Drafts.{old_of}

-- the slots that were read at a place, none where nothing was
abbrev pub read_slots : List Looked → Option ℕ → Looked → List (List ℕ)
read_slots seen None d = []
read_slots seen (Some i) d = (slice_index_or seen i d).slots

pub record IsPlace (seen : List Looked) (spot : Spot) (place : Option ℕ) : Type 0 where
  pub there : IfSome place (λ i. i < length seen)
  pub slots : (d : Looked) → read_slots seen place d ≡ old_of seen spot
