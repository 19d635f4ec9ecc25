use Rattle.revert_pass.proofs.SwapLemmas.{Swapping}
use Rattle.revert_pass.proofs.swapping.swap.Given as goal

abbrev pub invariant-loop-page : goal.invariant-loop-page
invariant-loop-page g l = Swapping l.fn.got l.fn.pages l.kept.items l.pages

abbrev pub decreases-loop-page : goal.decreases-loop-page
decreases-loop-page g l = goal.left-loop-page g l
