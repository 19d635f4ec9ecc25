use Rattle.std.proofs.Common.{◌≡◌, drop}
use Rattle.plain_model.specs.Sound.{are_distinct}
use Rattle.table_def.proofs.names.are_distinct.Given as goal

abbrev pub invariant-loop-i : goal.invariant-loop-i
invariant-loop-i l = are_distinct (drop l.i l.names) ≡ are_distinct l.names
