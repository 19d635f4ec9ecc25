-- Each call is left fewer columns.
use Rattle.std.proofs.Common.{length}
use Rattle.stmt_eval.proofs.changing.+set_to.Given as goal

abbrev pub decreases-set_to : goal.decreases-set_to
decreases-set_to l = length l.sets.now
