-- Both parts stay.
use Rattle.snap_pages.proofs.SwapLemmas.{snap_by_stays}
use Rattle.snap_pages.proofs.law.snapshots_stay_by_cut.Goals as goal

pub returns : goal.returns
returns c = λ old new same. snap_by_stays old new same
