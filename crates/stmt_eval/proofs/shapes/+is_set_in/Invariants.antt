-- Each call is left fewer columns.
use Rattle.std.proofs.Common.{length}
use Rattle.stmt_eval.proofs.shapes.+is_set_in.Given as goal

abbrev pub decreases-is_set_in : goal.decreases-is_set_in
decreases-is_set_in l = length l.sets.now
