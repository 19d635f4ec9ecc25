use Rattle.std.proofs.Common.{take}
use Rattle.table_walk.specs.Index.{Indexes}
use Rattle.table_walk.proofs.index.page_index.Given as goal

abbrev pub invariant-loop-i : goal.invariant-loop-i
invariant-loop-i l = Indexes l.places (take l.i l.seen)
