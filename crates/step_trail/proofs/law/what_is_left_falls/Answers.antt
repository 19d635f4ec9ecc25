use Rattle.step_trail.specs.Left.{left}
use Rattle.step_trail.proofs.LeftLemmas.{below_itself, below_through, falls_not_for_ever}
use Rattle.step_trail.proofs.law.what_is_left_falls.Goals as goal

pub returns-clause-apart : goal.returns-clause-apart
returns-clause-apart c = λ e lower. below_itself (left e) lower

pub returns-clause-through : goal.returns-clause-through
returns-clause-through c = λ e s t lower further. below_through (left t) (left s) (left e) further lower

pub returns-clause-ends : goal.returns-clause-ends
returns-clause-ends c = falls_not_for_ever
