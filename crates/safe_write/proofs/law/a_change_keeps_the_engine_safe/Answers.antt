use Rattle.step_state.proofs.KeptLemmas.{kept}
use Rattle.safe_write.proofs.ChangeKeeps.{change_keeps}
use Rattle.safe_write.proofs.law.a_change_keeps_the_engine_safe.Goals as goal

pub returns-clause-steps : goal.returns-clause-steps
returns-clause-steps c = change_keeps

pub returns-clause-safe : goal.returns-clause-safe
returns-clause-safe c = λ e s k safe d. kept e s k safe (change_keeps e s k safe d)
