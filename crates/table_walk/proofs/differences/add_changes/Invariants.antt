use Rattle.std.proofs.Common.{◌+◌, length}
use Rattle.table_walk.proofs.EditLemmas.{Adds}
use Rattle.table_walk.proofs.differences.add_changes.Given as goal

abbrev pub invariant-loop-i : goal.invariant-loop-i
invariant-loop-i l = Adds l.spot l.grows l.old l.new l.i (length l.old + length l.new) l.fn.edits l.edits
