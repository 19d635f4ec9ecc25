use Rattle.std.proofs.Common.{◌≡◌, ◌<◌, false}
use Rattle.page_base.specs.declared.numbers.SnapNo.{SnapNo}
use Rattle.snap_pages.specs.Dues.{is_due}
use Rattle.snap_pages.proofs.pages.SnapPages.next_push.Given as goal

abbrev pub invariant-loop-s : goal.invariant-loop-s
invariant-loop-s g l = (k : SnapNo) → k.0 < l.s → is_due l.self l.p k ≡ false
