use Rattle.snap_pages.proofs.CutLemmas.{place_of_cut, place_some, place_lacks}
use Rattle.snap_pages.proofs.law.cuts_name_places.Goals as goal

pub returns-clause-here : goal.returns-clause-here
returns-clause-here c = λ v s is there. place_of_cut v s is there

pub returns-clause-there : goal.returns-clause-there
returns-clause-there c = λ v d s e. (let is = place_some v d s e in (is.there, is.is))

pub returns-clause-none : goal.returns-clause-none
returns-clause-none c = λ v d s e there. place_lacks v d e s there
