use Rattle.std.proofs.Common.{◌∙◌}
use Rattle.plain_steps.proofs.PhaseLemmas.{built, phases}
use Rattle.plain_steps.proofs.phases.statements_come_by_phases.Goals as goal

pub returns : goal.returns
returns c = λ st k stmt is ok of here. built st k stmt is ok ∙ phases st k stmt of here
