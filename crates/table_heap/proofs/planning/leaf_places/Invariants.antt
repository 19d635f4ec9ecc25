use Rattle.std.proofs.Common.{◌≡◌, map, take}
use Rattle.page_fmt.specs.Seen.{place_of}
use Rattle.table_heap.specs.Shape.{leaves_in}
use Rattle.table_heap.proofs.planning.leaf_places.Given as goal

abbrev pub invariant-loop-visit : goal.invariant-loop-visit
invariant-loop-visit l = l.found.items ≡ map (place_of l.seen) (leaves_in (take l.visit-index l.done))
