-- Each call is left fewer columns.
use Rattle.std.proofs.Common.{length}
use Rattle.stmt_eval.proofs.storing.+some_lacks.Given as goal

abbrev pub decreases-some_lacks : goal.decreases-some_lacks
decreases-some_lacks l = length l.cols.now
