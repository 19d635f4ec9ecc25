use Rattle.step_state.proofs.KeptLemmas.{kept}
use Rattle.safe_write.proofs.PushKeeps.{lost_copy_keeps}
use Rattle.safe_write.proofs.law.a_lost_copy_keeps_the_engine_safe.Goals as goal

pub returns-clause-steps : goal.returns-clause-steps
returns-clause-steps c = lost_copy_keeps

pub returns-clause-safe : goal.returns-clause-safe
returns-clause-safe c = λ e s k safe d. kept e s k safe (lost_copy_keeps e s k safe d)
