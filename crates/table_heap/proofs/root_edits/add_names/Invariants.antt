use Rattle.std.proofs.Common.{◌≡◌, ◌++◌, take}
use Rattle.table_heap.specs.Growth.{name_edits}
use Rattle.table_heap.proofs.root_edits.add_names.Given as goal

abbrev pub invariant-loop-i : goal.invariant-loop-i
invariant-loop-i l = l.edits ≡ l.fn.edits ++ name_edits l.spot l.first (take l.i l.names)
