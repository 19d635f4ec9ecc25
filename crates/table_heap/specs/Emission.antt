-- The edits that a plan makes of its pages, one page behind the other: each leaf by its number, and behind the leaves the
-- root pages that change.
use Rattle.std.specs.Prelude.{◌≡◌, ◌<◌, ◌≤◌, ℕ, ◌+◌, ◌-◌, List, [], ◌∷◌, ◌++◌, length, map, slice_index_or}
use Rattle.page_base.specs.declared.numbers.PageId.{PageId}
use Rattle.page_fmt.specs.Seen.{Looked, look}
use Rattle.table_walk.specs.declared.plan.Edit.{Edit}
use Rattle.table_walk.specs.declared.plan.Spot.{Spot}
use Rattle.table_walk.specs.declared.plan.Spot.TheVariants.{Old, New}
use Rattle.table_walk.specs.declared.visit.Visit.{Visit}
use Rattle.table_walk.specs.Differences.{MakesPage}
use Rattle.table_heap.specs.declared.growing.Growth.{Growth}
use Rattle.table_heap.specs.declared.growing.RootPage.{RootPage}
use Rattle.table_heap.specs.Growth.{IsNumbering, IsGrowing, pages_in, root_edits}
use Rattle.table_heap.specs.Shape.{roots_in}

-- the pages that were read at these places
abbrev pub read_pages : List Looked → Looked → List ℕ → List PageId
read_pages seen d places = map (λ i. (slice_index_or seen i d).page) places

-- and their slots
abbrev pub read_slots : List Looked → Looked → List ℕ → List (List (List ℕ))
read_slots seen d places = map (λ i. (slice_index_or seen i d).slots) places

-- the leaves afterwards: those that were there, and those that are claimed
abbrev pub leaf_spots : List PageId → List ℕ → List Spot
leaf_spots pages claims = map Old pages ++ map New claims

-- the edits of the page of this number
pub record Makes (spots : List Spot) (olds news : List (List (List ℕ))) (roots : List RootPage) (page : ℕ) (edits : List Edit) : Type 0 where
  pub leaf : page < length news → (s : Spot) → MakesPage (slice_index_or spots page s) (slice_index_or olds page []) (slice_index_or news page []) edits
  pub root : length news ≤ page → (r : RootPage) → edits ≡ root_edits (slice_index_or roots (page - length news) r)

-- such edits were put behind others
pub record Adds (spots : List Spot) (olds news : List (List (List ℕ))) (roots : List RootPage) (page : ℕ) (before after : List Edit) : Type 0 where
  pub edits : List Edit
  pub are : after ≡ before ++ edits
  pub make : Makes spots olds news roots page edits

-- the edits of pages in this order
abbrev pub MakesAll : List Spot → List (List (List ℕ)) → List (List (List ℕ)) → List RootPage → List ℕ → List Edit → Type 0
MakesAll spots olds news roots [] edits = edits ≡ []
MakesAll spots olds news roots (i ∷ is) edits = (first : List Edit) × (rest : List Edit) × Makes spots olds news roots i first × MakesAll spots olds news roots is rest × (edits ≡ first ++ rest)

-- the last of some pages, or d
abbrev pub last_or : PageId → List PageId → PageId
last_or d [] = d
last_or d (p ∷ ps) = last_or p ps

-- the edits make these slots of the leaves that a walk came to, and the root pages that this takes, each page in its turn
pub record IsPlanned (seen : List Looked) (root : PageId) (done : List Visit) (places : List ℕ) (news : List (List (List ℕ))) (n : ℕ) (edits : List Edit) : Type 0 where
  pub growth : Growth
  pub grows : IsGrowing (Old (last_or root (roots_in done))) (length (look seen (last_or root (roots_in done)))) (length news - length places) [] growth
  pub claims : growth.claims ≡ n
  pub order : List ℕ
  pub numbered : IsNumbering (length news + length (pages_in growth)) order
  pub makes : (d : Looked) → MakesAll (leaf_spots (read_pages seen d places) growth.leaves) (read_slots seen d places) news (pages_in growth) order edits
