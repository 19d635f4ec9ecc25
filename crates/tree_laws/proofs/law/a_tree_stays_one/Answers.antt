use Rattle.tree_laws.proofs.TreeStays.{stays_one}
use Rattle.tree_laws.proofs.law.a_tree_stays_one.Goals as goal

pub returns : goal.returns
returns c = λ cols claimed n at owns root sheets rows cut put has free may t few. stays_one cols has claimed n at owns root sheets rows cut put free may t few
