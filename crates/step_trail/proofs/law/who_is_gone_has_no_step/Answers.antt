use Rattle.step_trail.proofs.NextLemmas.{none_is_gone}
use Rattle.step_trail.proofs.law.who_is_gone_has_no_step.Goals as goal

pub returns : goal.returns
returns c = none_is_gone
