-- The values so far are gathered.
use Rattle.plain_model.specs.Changing.{set_to}
use Rattle.stmt_eval.proofs.GatheringLemmas.{IsGathered}
use Rattle.stmt_eval.proofs.changing.set_row.Given as goal

abbrev pub invariant-loop-column : goal.invariant-loop-column
invariant-loop-column l = IsGathered (set_to l.sets l.cols l.row) l.column-items l.column-index l.new
