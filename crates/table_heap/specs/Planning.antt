-- What a plan of a heap promises: the table of rows that it leaves, and the leaf and slot of each row.
use Rattle.std.specs.Prelude.{Bool, ◌≡◌, All, ℕ, ◌++◌, ◌+◌, ◌*◌, ◌<◌, if◌then◌else◌, List, [], ◌∷◌, length, take, drop, map}
use Rattle.std.specs.List.{AllPairs}
use Rattle.page_base.specs.declared.column.Column.{Column}
use Rattle.page_base.specs.declared.numbers.PageId.{PageId}
use Rattle.page_base.specs.declared.value.Value.{Value}
use Rattle.page_fmt.specs.Seen.{SlotsAt, Looked, Shows}
use Rattle.plain_model.specs.Tables.{Rows}
use Rattle.table_walk.specs.declared.plan.Edit.{Edit}
use Rattle.table_walk.specs.declared.visit.Visit.{Visit}
use Rattle.table_walk.specs.Walk.{IsWalk}
use Rattle.table_walk.specs.Tables.{is_leaf, MayPut}
use Rattle.table_walk.specs.Plans.{after, AreFree, IsBelow, IsOtherSlot, IsOnLeaf, Carries, cut_all, put_all}
use Rattle.table_heap.specs.Heap.{heap_kids, heap_shape, first, RowsAt}
use Rattle.table_heap.specs.Growth.{IsNumbering}
use Rattle.table_heap.specs.Shape.{leaves_in, roots_in}
use Rattle.table_heap.specs.Leaves.{Leaf, slots_of, all_rows, cut_keys, put_rows}

-- the slots of the leaves, in the order of the walk
abbrev pub leaf_slots : SlotsAt → List Visit → List (List (List ℕ))
leaf_slots at [] = []
leaf_slots at (v ∷ vs) = if is_leaf v then at v.page ∷ leaf_slots at vs else leaf_slots at vs

-- these are the leaves of the heap, and their rows are rows of these columns
pub record HasLeaves (cols : List Column) (at : SlotsAt) (root : PageId) (leaves : List Leaf) : Type 0 where
  pub done : List Visit
  pub walk : IsWalk heap_kids at (first root) done []
  pub slots : leaf_slots at done ≡ map slots_of leaves
  pub rows : All (MayPut cols) (all_rows leaves)

-- each of these root pages is claimed right behind the first leaf that it names, and there is one: 1,000 of these leaves for each, in order
abbrev pub AreBehind : (ℕ → PageId) → List PageId → List ℕ → Type 0
AreBehind claimed leaves [] = Unit {0}
AreBehind claimed leaves (r ∷ rs) = (c : ℕ) × (r ≡ c + 1) × (take 1 leaves ≡ claimed c ∷ []) × AreBehind claimed (drop 1000 leaves) rs

-- which claimed page is which: new leaves in the order of their claims, and each new root page right behind its first leaf
pub record AreClaimed (claimed : ℕ → PageId) (n : ℕ) (before later : List Visit) : Type 0 where
  pub leaves : List ℕ
  pub roots : List ℕ
  pub leaves_are : leaves_in later ≡ leaves_in before ++ map claimed leaves
  pub roots_are : roots_in later ≡ roots_in before ++ map claimed roots
  pub ascend : AllPairs (λ i j. i < j) leaves
  pub follow : AreBehind claimed (drop (1000 * length (roots_in before)) (leaves_in later)) roots
  pub numbered : IsNumbering n (leaves ++ roots)

-- Over pages that are a table, and whatever free pages are claimed, the edits carry the table to its rows without those
-- that are cut and with those that are put, and each row to its place; the claimed pages are the new ones, in order,
-- no slot is edited twice, and the edits of rows are of leaves. Whatever was read, the edits speak of the first n claimed pages alone.
pub record Promises (cols : List Column) (seen : List Looked) (root : PageId) (cut put : List (List Value)) (n : ℕ) (edits : List Edit) : Type 0 where
  pub carries : (at : SlotsAt) (owns : PageId → Bool) (rows : Rows) (claimed : ℕ → PageId) → RowsAt cols at owns root rows → Shows seen at → AreFree claimed n at owns
      → Carries heap_shape cols (first root) claimed n at owns edits (put_all cols put (cut_all cut rows))
  pub places : (at : SlotsAt) (owns : PageId → Bool) (rows : Rows) (claimed : ℕ → PageId) (leaves : List Leaf) → RowsAt cols at owns root rows → Shows seen at → AreFree claimed n at owns
      → HasLeaves cols at root leaves → HasLeaves cols (after claimed at edits) root (put_rows cols put (cut_keys cols cut leaves))
  pub claims : (at : SlotsAt) (owns : PageId → Bool) (rows : Rows) (claimed : ℕ → PageId) (before later : List Visit) → RowsAt cols at owns root rows → Shows seen at → AreFree claimed n at owns
      → IsWalk heap_kids at (first root) before [] → IsWalk heap_kids (after claimed at edits) (first root) later [] → AreClaimed claimed n before later
  pub once : (at : SlotsAt) (owns : PageId → Bool) (rows : Rows) (claimed : ℕ → PageId) → RowsAt cols at owns root rows → Shows seen at → AreFree claimed n at owns → AllPairs (IsOtherSlot claimed) edits
  pub rows : (at : SlotsAt) (owns : PageId → Bool) (rows : Rows) (claimed : ℕ → PageId) (later : List Visit) → RowsAt cols at owns root rows → Shows seen at → AreFree claimed n at owns
      → IsWalk heap_kids (after claimed at edits) (first root) later [] → All (IsOnLeaf claimed later) edits
  pub numbers : All (IsBelow n) edits
