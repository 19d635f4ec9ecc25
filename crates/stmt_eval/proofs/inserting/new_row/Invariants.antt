-- The values so far are gathered.
use Rattle.std.proofs.Common.{option_and_then}
use Rattle.plain_model.specs.Inserting.{given_for}
use Rattle.plain_model.specs.Storing.{kept_as}
use Rattle.stmt_eval.proofs.GatheringLemmas.{IsGathered}
use Rattle.stmt_eval.proofs.inserting.new_row.Given as goal

abbrev pub invariant-loop-column : goal.invariant-loop-column
invariant-loop-column l = IsGathered (λ c. option_and_then (kept_as c.kind) (given_for l.names l.exprs c.name)) l.column-items l.column-index l.row
