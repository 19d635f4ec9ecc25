-- The shape of a heap: root pages in a chain, and the leaves that they name, 1,000 on each before the next.
use Rattle.std.specs.Prelude.{◌≡◌, ◌≤◌, true, if◌then◌else◌, Some, ℕ, ◌+◌, List, [], ◌∷◌, ◌++◌, length, take, drop}
use Rattle.page_base.specs.declared.numbers.PageId.{PageId}
use Rattle.page_base.specs.Pages.{is_page}
use Rattle.page_fmt.specs.Seen.{SlotsAt}
use Rattle.table_walk.specs.declared.visit.Visit.{Visit}
use Rattle.table_walk.specs.Addresses.{page_at, names_none}
use Rattle.table_walk.specs.Tables.{is_leaf}

-- these slots are the addresses of these pages, in order
abbrev pub Name : List (List ℕ) → List PageId → Type 0
Name [] [] = Unit {0}
Name [] (p ∷ ps) = ⊥
Name (x ∷ xs) [] = ⊥
Name (x ∷ xs) (p ∷ ps) = (page_at x ≡ Some p) × Name xs ps

-- slot 0 names the next root page, and that only where 1,000 leaves are named; none behind the last one
abbrev pub NamesNext : List ℕ → List PageId → List PageId → Type 0
NamesNext x leaves [] = names_none x ≡ true
NamesNext x leaves (r ∷ rs) = (page_at x ≡ Some r) × (length leaves ≡ 1000)

-- the slots of a root page that names these leaves, before these root pages
abbrev pub IsRootPage : List (List ℕ) → List PageId → List PageId → Type 0
IsRootPage [] leaves next = ⊥
IsRootPage (x ∷ xs) leaves next = NamesNext x leaves next × Name xs leaves

-- root pages that name these leaves, the first 1,000 on the first one
abbrev pub Chain : SlotsAt → List PageId → List PageId → Type 0
Chain at [] leaves = leaves ≡ []
Chain at (r ∷ rs) leaves = IsRootPage (at r) (take 1000 leaves) rs × Chain at rs (drop 1000 leaves)

-- the visits of the leaves that a root page names, from a slot on
abbrev pub leaf_visits_of : PageId → ℕ → List PageId → List Visit
leaf_visits_of from i [] = []
leaf_visits_of from i (p ∷ ps) = record { page = p; from = from; slot = i; level = Some 0 } ∷ leaf_visits_of from (i + 1) ps

-- the visit of a root page
abbrev pub root_visit : PageId → PageId → Visit
root_visit from p = record { page = p; from = from; slot = 0; level = Some 1 }

-- the visits of root pages, each before those of its leaves
abbrev pub visits_of : PageId → List PageId → List PageId → List Visit
visits_of from [] leaves = []
visits_of from (r ∷ rs) leaves = root_visit from r ∷ (leaf_visits_of r 1 (take 1000 leaves) ++ visits_of r rs (drop 1000 leaves))

-- how often a page is one of these
abbrev pub times : PageId → List PageId → ℕ
times p [] = 0
times p (q ∷ qs) = (if is_page q p then 1 else 0) + times p qs

-- the pages of the visits to leaves
abbrev pub leaves_in : List Visit → List PageId
leaves_in [] = []
leaves_in (v ∷ vs) = if is_leaf v then v.page ∷ leaves_in vs else leaves_in vs

-- the pages of the others
abbrev pub roots_in : List Visit → List PageId
roots_in [] = []
roots_in (v ∷ vs) = if is_leaf v then roots_in vs else v.page ∷ roots_in vs

-- a heap with these root pages and leaves, all of them different
pub record IsHeapOf (at : SlotsAt) (root : PageId) (roots leaves : List PageId) : Type 0 where
  pub more : List PageId
  pub begins : roots ≡ root ∷ more
  pub chain : Chain at roots leaves
  pub differ : (p : PageId) → times p roots + times p leaves ≤ 1
