use Rattle.std.proofs.Common.{refl}
use Rattle.plain_steps.proofs.replies.a_revert_makes_the_copy_the_source.Goals as goal

pub returns-clause-source : goal.returns-clause-source
returns-clause-source c = λ st k d snap. refl

pub returns-clause-copies : goal.returns-clause-copies
returns-clause-copies c = λ st k d snap other. refl
