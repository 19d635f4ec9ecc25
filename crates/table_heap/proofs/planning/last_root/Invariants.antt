use Rattle.std.proofs.Common.{◌≡◌, take}
use Rattle.table_heap.specs.Emission.{last_or}
use Rattle.table_heap.specs.Shape.{roots_in}
use Rattle.table_heap.proofs.planning.last_root.Given as goal

abbrev pub invariant-loop-visit : goal.invariant-loop-visit
invariant-loop-visit l = l.last ≡ last_or l.fn.root (roots_in (take l.visit-index l.done))
