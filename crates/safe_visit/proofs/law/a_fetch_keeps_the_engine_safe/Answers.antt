use Rattle.step_state.proofs.KeptLemmas.{kept}
use Rattle.safe_visit.proofs.FetchKeeps.{fetch_keeps}
use Rattle.safe_visit.proofs.law.a_fetch_keeps_the_engine_safe.Goals as goal

pub returns-clause-steps : goal.returns-clause-steps
returns-clause-steps c = fetch_keeps

pub returns-clause-safe : goal.returns-clause-safe
returns-clause-safe c = λ e s k safe d. kept e s k safe (fetch_keeps e s k safe d)
