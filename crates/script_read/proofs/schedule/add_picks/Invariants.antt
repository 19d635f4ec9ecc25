use Rattle.std.proofs.Common.{length}
use Rattle.script_read.proofs.WordLemmas.{Added}
use Rattle.script_read.proofs.schedule.add_picks.Given as goal

abbrev pub invariant-loop-rest : goal.invariant-loop-rest
invariant-loop-rest l = Added l.sessions l.line l.rest l.fn.picks l.picks

abbrev pub decreases-loop-rest : goal.decreases-loop-rest
decreases-loop-rest l = length l.rest
