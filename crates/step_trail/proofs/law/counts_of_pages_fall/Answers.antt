use Rattle.step_trail.proofs.CountingLemmas.{count_falls, count_fewer}
use Rattle.step_trail.proofs.law.counts_of_pages_fall.Goals as goal

pub returns-clause-one : goal.returns-clause-one
returns-clause-one c = count_falls

pub returns-clause-fewer : goal.returns-clause-fewer
returns-clause-fewer c = count_fewer
