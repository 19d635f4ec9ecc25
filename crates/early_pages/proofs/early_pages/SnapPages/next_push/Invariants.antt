use Rattle.std.proofs.Common.{◌<◌}
use Rattle.page_base.specs.declared.numbers.SnapNo.{SnapNo}
use Rattle.early_pages.specs.Views.{IsDue}
use Rattle.early_pages.proofs.early_pages.SnapPages.next_push.Given as goal

abbrev pub invariant-loop-s : goal.invariant-loop-s
invariant-loop-s g l = (k : SnapNo) → k.0 < l.s → ¬ IsDue l.self l.p k
