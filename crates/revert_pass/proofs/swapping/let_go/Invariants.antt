use Rattle.std.proofs.Common.{◌≡◌}
use Rattle.snap_pages.specs.Shown.{img}
use Rattle.revert_pass.proofs.SwapLemmas.{Holding}
use Rattle.revert_pass.proofs.swapping.let_go.Given as goal

abbrev pub invariant-loop-page : goal.invariant-loop-page
invariant-loop-page g l = Holding l.fn.got l.fn.pages l.kept.items l.pages × (img l.pages ≡ img l.fn.pages)

abbrev pub decreases-loop-page : goal.decreases-loop-page
decreases-loop-page g l = goal.left-loop-page g l
