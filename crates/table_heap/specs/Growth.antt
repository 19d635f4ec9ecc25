-- What becomes of the root pages of a heap that gets leaves: pages that are claimed, each by its number.
use Rattle.std.specs.Prelude.{false, ◌≡◌, ◌==◌, ◌<◌, ◌≤◌, if◌then◌else◌, Option, None, Some, ℕ, zero, suc, ◌+◌, max, List, [], ◌∷◌, ◌++◌, length, take, drop, map}
use Rattle.std.specs.List.{AllPairs}
use Rattle.std.specs.Option.{option_to_list}
use Rattle.page_base.specs.declared.numbers.PageId.{PageId}
use Rattle.table_walk.specs.declared.plan.Edit.{Edit}
use Rattle.table_walk.specs.declared.plan.Spot.{Spot}
use Rattle.table_walk.specs.declared.plan.Spot.TheVariants.{New}
use Rattle.table_walk.specs.Addresses.{address}
use Rattle.table_heap.specs.declared.growing.Growth.{Growth}
use Rattle.table_heap.specs.declared.growing.RootPage.{RootPage}

-- how often a number is one of these
abbrev pub count_of : ℕ → List ℕ → ℕ
count_of i [] = 0
count_of i (j ∷ js) = (if j == i then 1 else 0) + count_of i js

-- these are the numbers below n, each once
pub record IsNumbering (n : ℕ) (claims : List ℕ) : Type 0 where
  pub each : (i : ℕ) → i < n → count_of i claims ≡ 1
  pub below : (i : ℕ) → n ≤ i → count_of i claims ≡ 0

-- slot 0 of a root page: the next root page, or what it was; five zeros on a new page
abbrev pub slot_0 : (ℕ → PageId) → Option ℕ → List (List ℕ) → List ℕ
slot_0 claimed (Some j) old = address (claimed j)
slot_0 claimed None [] = 0 ∷ 0 ∷ 0 ∷ 0 ∷ 0 ∷ []
slot_0 claimed None (x ∷ xs) = x

-- the slots of a root page afterwards: leaves are named behind those that it names already
abbrev pub root_made : (ℕ → PageId) → List (List ℕ) → RootPage → List (List ℕ)
root_made claimed old r = slot_0 claimed r.next old ∷ (drop 1 old ++ map (λ i. address (claimed i)) r.names)

-- how many slots a root page has afterwards
abbrev pub slots_made : RootPage → ℕ
slots_made r = max r.slots 1 + length r.names

-- root pages, each of which names the next one: each but the last is full, and each but the first is new
abbrev pub IsChain : List RootPage → Type 0
IsChain [] = ⊥
IsChain (r ∷ []) = (r.next ≡ None) × (slots_made r ≤ 1001)
IsChain (r ∷ s ∷ rest) = (j : ℕ) × (r.next ≡ Some j) × (s.spot ≡ New j) × (s.slots ≡ 0) × (slots_made r ≡ 1001) × IsChain (s ∷ rest)

-- the claims of the leaves
abbrev pub leaf_claims : List RootPage → List ℕ
leaf_claims [] = []
leaf_claims (r ∷ rs) = r.names ++ leaf_claims rs

-- the claims of the root pages
abbrev pub root_claims : List RootPage → List ℕ
root_claims [] = []
root_claims (r ∷ rs) = option_to_list r.next ++ root_claims rs

-- each root page behind another is claimed right behind the first leaf that is named from it on; claims that are still to be used come last
abbrev pub AreFollowed : List RootPage → List ℕ → Type 0
AreFollowed [] pending = Unit {0}
AreFollowed (r ∷ []) pending = Unit {0}
AreFollowed (r ∷ s ∷ rest) pending = (c : ℕ) × (r.next ≡ Some (c + 1)) × (take 1 (leaf_claims (s ∷ rest) ++ pending) ≡ c ∷ []) × AreFollowed (s ∷ rest) pending

-- the edit of its slot 0, where that changes: it names the next root page, or none on a page of no slots
abbrev pub front_edits : Spot → ℕ → Option ℕ → List Edit
front_edits spot count (Some j) = record { spot = spot; slot = 0; names = Some j; bytes = []; of_row = false } ∷ []
front_edits spot zero None = record { spot = spot; slot = 0; names = None; bytes = 0 ∷ 0 ∷ 0 ∷ 0 ∷ 0 ∷ []; of_row = false } ∷ []
front_edits spot (suc n) None = []

-- the edits that name leaves in slots, from one on
abbrev pub name_edits : Spot → ℕ → List ℕ → List Edit
name_edits spot slot [] = []
name_edits spot slot (i ∷ is) = record { spot = spot; slot = slot; names = Some i; bytes = []; of_row = false } ∷ name_edits spot (slot + 1) is

-- the edits of a root page
abbrev pub root_edits : RootPage → List Edit
root_edits r = front_edits r.spot r.slots r.next ++ name_edits r.spot (max r.slots 1) r.names

-- the root pages that change
abbrev pub pages_in : Growth → List RootPage
pages_in g = g.full ++ g.last ∷ []

-- the first one stands there, and has so many slots
abbrev pub Begins : Spot → ℕ → List RootPage → Type 0
Begins spot count [] = ⊥
Begins spot count (r ∷ rs) = (r.spot ≡ spot) × (r.slots ≡ count)

-- so many leaves are claimed, behind a root page of so many slots; these claims are still to be used
pub record IsGrowing (spot : Spot) (count n : ℕ) (pending : List ℕ) (g : Growth) : Type 0 where
  pub chain : IsChain (pages_in g)
  pub begins : Begins spot count (pages_in g)
  pub leaves : leaf_claims (pages_in g) ≡ g.leaves
  pub many : length g.leaves ≡ n
  pub numbered : IsNumbering g.claims (pending ++ (g.leaves ++ root_claims (pages_in g)))
  pub room : g.room + slots_made g.last ≡ 1001
  pub ascend : AllPairs (λ i j. i < j) g.leaves
  pub above : (p c : ℕ) → 1 ≤ count_of p pending → 1 ≤ count_of c g.leaves → c < p
  pub follow : AreFollowed (pages_in g) pending
