use Rattle.step_trail.proofs.TraceLemmas.{traced_none, traced_more, traced_flush, traced_end}
use Rattle.step_trail.proofs.law.a_trail_keeps_up_with_its_engine.Goals as goal

pub returns-clause-none : goal.returns-clause-none
returns-clause-none c = traced_none

pub returns-clause-step : goal.returns-clause-step
returns-clause-step c = λ z e s k d entries t is. traced_more z e s k d entries t is

pub returns-clause-flush : goal.returns-clause-flush
returns-clause-flush c = λ z e s d entries t is. traced_flush z e s d entries t is

pub returns-clause-end : goal.returns-clause-end
returns-clause-end c = λ z e entries who t le. traced_end z e entries t who le
