-- Each call is left fewer names.
use Rattle.std.proofs.Common.{length}
use Rattle.stmt_eval.proofs.shapes.+may_all_stand.Given as goal

abbrev pub decreases-may_all_stand : goal.decreases-may_all_stand
decreases-may_all_stand l = length l.names.now
