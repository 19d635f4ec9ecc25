-- Each call is left fewer columns.
use Rattle.std.proofs.Common.{length}
use Rattle.stmt_eval.proofs.storing.+some_overflows.Given as goal

abbrev pub decreases-some_overflows : goal.decreases-some_overflows
decreases-some_overflows l = length l.cols.now
