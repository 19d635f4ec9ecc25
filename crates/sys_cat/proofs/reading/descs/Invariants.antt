use Rattle.std.proofs.Common.{◌-◌, length}
use Rattle.sys_cat.proofs.ReadLemmas.{State}
use Rattle.sys_cat.proofs.reading.descs.Given as goal

abbrev pub invariant-loop-i : goal.invariant-loop-i
invariant-loop-i l = State l.rows l.descs.items l.i

abbrev pub decreases-loop-i : goal.decreases-loop-i
decreases-loop-i l = length l.rows - l.i
