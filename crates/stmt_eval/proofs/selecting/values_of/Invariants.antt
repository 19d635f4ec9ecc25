-- The values so far are gathered.
use Rattle.plain_model.specs.Tree.{tree_of}
use Rattle.plain_model.specs.Values.{value_of}
use Rattle.stmt_eval.proofs.GatheringLemmas.{IsGathered}
use Rattle.stmt_eval.proofs.selecting.values_of.Given as goal

abbrev pub invariant-loop-e : goal.invariant-loop-e
invariant-loop-e l = IsGathered (λ e. value_of l.cols l.row (tree_of e)) l.e-items l.e-index l.values
