use Rattle.step_trail.proofs.CountingLemmas.{apart_counted, apart_fewer}
use Rattle.step_trail.proofs.law.pages_apart_are_counted.Goals as goal

pub returns-clause-all : goal.returns-clause-all
returns-clause-all c = apart_counted

pub returns-clause-fewer : goal.returns-clause-fewer
returns-clause-fewer c = apart_fewer
