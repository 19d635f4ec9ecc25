use Rattle.stmt_course.proofs.BringLemmas.{nothing_brought}
use Rattle.stmt_course.proofs.law.nothing_comes.Goals as goal

pub returns : goal.returns
returns c = nothing_brought
