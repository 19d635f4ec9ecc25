-- Each call is left fewer names.
use Rattle.std.proofs.Common.{length}
use Rattle.stmt_eval.proofs.shapes.+are_distinct_sets.Given as goal

abbrev pub decreases-are_distinct_sets : goal.decreases-are_distinct_sets
decreases-are_distinct_sets l = length l.sets.now
