use Rattle.step_state.proofs.KeptLemmas.{kept}
use Rattle.step_state.proofs.law.steps_keep_the_engine_safe.Goals as goal

pub returns : goal.returns
returns c = kept
