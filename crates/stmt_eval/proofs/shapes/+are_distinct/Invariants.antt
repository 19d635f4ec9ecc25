-- Each call is left fewer names.
use Rattle.std.proofs.Common.{length}
use Rattle.stmt_eval.proofs.shapes.+are_distinct.Given as goal

abbrev pub decreases-are_distinct : goal.decreases-are_distinct
decreases-are_distinct l = length l.names.now
