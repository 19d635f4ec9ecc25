use Rattle.step_trail.proofs.ReachLemmas.{reached_next}
use Rattle.step_trail.proofs.law.the_next_step_may_come.Goals as goal

pub returns : goal.returns
returns c = reached_next
