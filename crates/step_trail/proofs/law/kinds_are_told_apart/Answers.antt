use Rattle.step_trail.proofs.KindLemmas.{kinds_apart}
use Rattle.step_trail.proofs.law.kinds_are_told_apart.Goals as goal

pub returns : goal.returns
returns c = kinds_apart
