use Rattle.std.proofs.Common.{◌≡◌, List, ℕ, get_or, map, take}
use Rattle.page_fmt.specs.Seen.{Looked}
use Rattle.table_heap.specs.Leaves.{Leaf, slots_of}
use Rattle.table_heap.specs.Places.{AreApart, AreRows, IsSoFar}
use Rattle.table_heap.proofs.draft.Draft.read.Given as goal

abbrev pub invariant-loop-leaf : goal.invariant-loop-leaf
invariant-loop-leaf l = record {
  slots : (d : Looked) → l.leaves.items ≡ map (λ (i : ℕ). (get_or l.seen i d).slots) (take l.leaf l.pages);
  places : (d : Looked) (leaves : List Leaf) → map (λ (i : ℕ). (get_or l.seen i d).slots) l.pages ≡ map slots_of leaves → AreRows l.cols leaves → AreApart l.cols leaves → IsSoFar l.cols leaves l.leaf 0 l.places;
}
