-- A table that is read page by page: what was read of it, and what comes next.
use Rattle.std.specs.Prelude.{◌≡◌, ℕ, Option, Some, None, List, [], ◌∷◌, ◌++◌, reverse, option_to_list}
use Rattle.page_base.specs.declared.numbers.PageId.{PageId}
use Rattle.page_fmt.specs.Seen.{Looked, Saw}
use Rattle.table_walk.specs.declared.visit.Visit.{Visit}
use Rattle.table_walk.specs.Index.{Indexes}
use Rattle.table_walk.specs.Walk.{IsSeenWalk, IsDone, IsBad, Lacks, Reaches}
use Rattle.page_tables.specs.Layout.{shape, first}
use Rattle.std.specs.BTreeMap.{BTreeMap}

pub record Scanned : Type 0 where
  pub root : PageId
  -- pages that were read, in order
  pub seen : List Looked
  -- the visit of the page that is read next; none where all were
  pub next : Option Visit

-- this comes next of the table with this root, and wasn't read; or all was read
abbrev pub IsNextOf : List Looked → PageId → Option Visit → Type 0
IsNextOf seen root None = IsDone shape.kids seen (first root)
IsNextOf seen root (Some v) = Lacks shape.kids seen (first root) v

abbrev pub IsScan : Scanned → Type 0
IsScan s = IsNextOf s.seen s.root s.next

-- a page that was read now
abbrev pub with_page : List Looked → PageId → List (List ℕ) → List Looked
with_page seen p slots = seen ++ record { page = p; slots = slots } ∷ []

-- with the page that comes next, of which these are the slots, this slot of this page is damaged
abbrev pub IsBadThen : Scanned → List (List ℕ) → PageId → ℕ → Type 0
IsBadThen s slots page slot = (v : Visit) → s.next ≡ Some v → IsBad shape.kids (with_page s.seen v.page slots) (first s.root) page slot

-- the pages that were read are those of a walk, and these visits are still to come
pub record IsUnderWay (root : PageId) (seen : List Looked) (places : BTreeMap PageId ℕ) (todo : List Visit) : Type 0 where
  pub done : List Visit
  pub walk : IsSeenWalk shape.kids seen (first root) done todo
  pub reached : (p : PageId) → Saw seen p → Reaches done p
  pub index : Indexes places seen

-- of these visits the first one comes next, the last of the stack behind it
abbrev pub ahead : Option Visit → List Visit → List Visit
ahead next stack = option_to_list next ++ reverse stack

pub record IsWalking (root : PageId) (seen : List Looked) (places : BTreeMap PageId ℕ) (stack : List Visit) (next : Option Visit) : Type 0 where
  pub way : IsUnderWay root seen places (ahead next stack)
  pub scan : IsNextOf seen root next
  pub last : next ≡ None → stack ≡ []
