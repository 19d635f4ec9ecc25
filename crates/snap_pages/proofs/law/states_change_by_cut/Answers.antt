-- The snapshot keeps its cut.
use Rattle.std.proofs.Common.{refl}
use Rattle.snap_pages.proofs.SwapLemmas.{swap_by_other, swap_by_here}
use Rattle.snap_pages.proofs.law.states_change_by_cut.Goals as goal

pub returns-clause-others : goal.returns-clause-others
returns-clause-others c = λ s to old new d has is sets ne. swap_by_other old new s _ has is sets refl d ne

pub returns-clause-here : goal.returns-clause-here
returns-clause-here c = λ s to old new is has same sets. swap_by_here old new s _ has same sets refl is
