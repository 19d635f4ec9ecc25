use Rattle.step_state.proofs.KeptLemmas.{kept}
use Rattle.safe_snap.proofs.CutKeeps.{cut_keeps}
use Rattle.safe_snap.proofs.law.a_cut_keeps_the_engine_safe.Goals as goal

pub returns-clause-steps : goal.returns-clause-steps
returns-clause-steps c = cut_keeps

pub returns-clause-safe : goal.returns-clause-safe
returns-clause-safe c = λ e s k safe d. kept e s k safe (cut_keeps e s k safe d)
