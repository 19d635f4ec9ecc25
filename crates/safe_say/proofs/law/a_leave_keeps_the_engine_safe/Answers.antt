use Rattle.step_state.proofs.KeptLemmas.{kept}
use Rattle.safe_say.proofs.LeaveKeeps.{leave_keeps}
use Rattle.safe_say.proofs.law.a_leave_keeps_the_engine_safe.Goals as goal

pub returns-clause-steps : goal.returns-clause-steps
returns-clause-steps c = leave_keeps

pub returns-clause-safe : goal.returns-clause-safe
returns-clause-safe c = λ e s k safe d. kept e s k safe (leave_keeps e s k safe d)
