-- Each call is left fewer names.
use Rattle.std.proofs.Common.{length}
use Rattle.stmt_eval.proofs.inserting.+given_for.Given as goal

abbrev pub decreases-given_for : goal.decreases-given_for
decreases-given_for l = length l.names.now
