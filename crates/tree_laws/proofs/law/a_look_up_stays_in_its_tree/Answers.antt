use Rattle.tree_laws.proofs.WithinLemmas.{stays}
use Rattle.tree_laws.proofs.law.a_look_up_stays_in_its_tree.Goals as goal

pub returns : goal.returns
returns c = λ cols at owns root rows key done rest t w. stays cols at owns root rows key done rest t w
