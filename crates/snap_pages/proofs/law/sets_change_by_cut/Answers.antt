use Rattle.snap_pages.proofs.CutLemmas.{snap_by_other, snap_by_here}
use Rattle.snap_pages.proofs.law.sets_change_by_cut.Goals as goal

pub returns-clause-others : goal.returns-clause-others
returns-clause-others c = λ s old new d only ne. snap_by_other old new s only d ne

pub returns-clause-here : goal.returns-clause-here
returns-clause-here c = λ s old new is there only. snap_by_here old new s only is there
