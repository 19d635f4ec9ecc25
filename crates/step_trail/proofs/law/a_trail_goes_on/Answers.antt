use Rattle.std.proofs.Common.{refl}
use Rattle.step_trail.specs.Entries.{Step}
use Rattle.step_trail.proofs.EachLemmas.{walked_more, walked_at, walked_front}
use Rattle.step_trail.proofs.MoveLemmas.{walked_end}
use Rattle.step_trail.proofs.law.a_trail_goes_on.Goals as goal

pub returns-clause-step : goal.returns-clause-step
returns-clause-step c = λ z es d book w is. walked_more z es (Step d) book w is

pub returns-clause-end : goal.returns-clause-end
returns-clause-end c = walked_end

pub returns-clause-none : goal.returns-clause-none
returns-clause-none c = λ z. record { joined = refl; each = tt }

pub returns-clause-each : goal.returns-clause-each
returns-clause-each c = walked_at

pub returns-clause-front : goal.returns-clause-front
returns-clause-front c = walked_front
