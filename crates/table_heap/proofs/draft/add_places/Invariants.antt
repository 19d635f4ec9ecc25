use Rattle.std.proofs.Common.{◌≡◌, List, [], get_or}
use Rattle.page_fmt.specs.Seen.{Looked}
use Rattle.table_heap.specs.Leaves.{Leaf, slots_of}
use Rattle.table_heap.specs.Places.{AreApart, AreRows, IsSoFar}
use Rattle.table_heap.proofs.draft.add_places.Given as goal

abbrev pub invariant-loop-j : goal.invariant-loop-j
invariant-loop-j l = (d : Looked) (leaves : List Leaf) → slots_of (get_or leaves l.leaf []) ≡ (get_or l.seen l.i d).slots → AreRows l.cols leaves → AreApart l.cols leaves → IsSoFar l.cols leaves l.leaf 0 l.fn.places
    → IsSoFar l.cols leaves l.leaf l.j l.places
