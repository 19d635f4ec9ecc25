use Rattle.std.proofs.Common.{ap, ◌∙◌}
use Rattle.std.specs.FinSet.{contains, contains-empty}
use Rattle.page_dev.specs.Volume.{Names}
use Rattle.snapdb.proofs.main.Goals as goal

pub still-ended-requires : goal.still-ended-requires
still-ended-requires c = record { out = λ n. ap (λ (s : Names). contains s n) c.in-Ok-new.ensures.out ∙ contains-empty _ n }
