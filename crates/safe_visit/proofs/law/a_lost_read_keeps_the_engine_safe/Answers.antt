use Rattle.step_state.proofs.KeptLemmas.{kept}
use Rattle.safe_visit.proofs.LostKeeps.{lost_read_keeps}
use Rattle.safe_visit.proofs.law.a_lost_read_keeps_the_engine_safe.Goals as goal

pub returns-clause-steps : goal.returns-clause-steps
returns-clause-steps c = lost_read_keeps

pub returns-clause-safe : goal.returns-clause-safe
returns-clause-safe c = λ e s k safe d. kept e s k safe (lost_read_keeps e s k safe d)
