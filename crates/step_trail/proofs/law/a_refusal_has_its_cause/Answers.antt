use Rattle.step_trail.proofs.MoveLemmas.{refusal_caused}
use Rattle.step_trail.proofs.law.a_refusal_has_its_cause.Goals as goal

pub returns : goal.returns
returns c = refusal_caused
