use Rattle.std.proofs.Common.{ap, ◌∙◌}
use Rattle.std.specs.FinSet.{contains, contains-empty}
use Rattle.page_dev.specs.Volume.{Names}
use Rattle.snapdb.proofs.tests.status_of.Goals as goal

pub still-requires : goal.still-requires
still-requires g c = record { out = λ n. ap (λ (s : Names). contains s n) c.in_ok-new.ensures.out ∙ contains-empty _ n }
