-- The sum so far, and its bounds.
use Rattle.stmt_eval.proofs.TotalLemmas.{IsSummed}
use Rattle.stmt_eval.proofs.totals.total.Given as goal

abbrev pub invariant-loop-row : goal.invariant-loop-row
invariant-loop-row l = IsSummed l.place l.taken l.row-index l.sum
