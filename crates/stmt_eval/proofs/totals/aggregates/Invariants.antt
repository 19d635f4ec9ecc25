-- The aggregates so far.
use Rattle.stmt_eval.proofs.TotalLemmas.{IsAggregated}
use Rattle.stmt_eval.proofs.totals.aggregates.Given as goal

abbrev pub invariant-loop-place : goal.invariant-loop-place
invariant-loop-place l = IsAggregated l.cols l.taken l.sums l.place l.values
