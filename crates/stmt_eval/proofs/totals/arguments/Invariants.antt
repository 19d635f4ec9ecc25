-- The values so far are gathered.
use Rattle.plain_model.specs.Totals.{argument}
use Rattle.stmt_eval.proofs.GatheringLemmas.{IsGathered}
use Rattle.stmt_eval.proofs.totals.arguments.Given as goal

abbrev pub invariant-loop-sum : goal.invariant-loop-sum
invariant-loop-sum l = IsGathered (argument l.cols l.row) l.sum-items l.sum-index l.values
