use Rattle.std.proofs.Common.{ap, ◌∙◌}
use Rattle.std.specs.FinSet.{contains, contains-empty}
use Rattle.page_dev.specs.Volume.{Names}
use Rattle.early_engine.proofs.tests.engine.Goals as goal

pub fresh-engine-requires-clause-out : goal.fresh-engine-requires-clause-out
fresh-engine-requires-clause-out c = λ n. ap (λ (s : Names). contains s n) c.in_ok-volume.ensures.out ∙ contains-empty _ n
