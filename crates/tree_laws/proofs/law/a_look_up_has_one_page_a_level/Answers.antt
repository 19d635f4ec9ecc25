use Rattle.tree_laws.proofs.LookUpLemmas.{one_per_level}
use Rattle.tree_laws.proofs.law.a_look_up_has_one_page_a_level.Goals as goal

pub returns : goal.returns
returns c = λ cols at root key done rest w. one_per_level at cols root key done rest w
