-- Each call is left fewer values.
use Rattle.std.proofs.Common.{length}
use Rattle.stmt_eval.proofs.storing.+fit.Given as goal

abbrev pub decreases-fit : goal.decreases-fit
decreases-fit l = length l.values.now
