use Rattle.tree_laws.proofs.Looked.{stays_looked, looked_tree}
use Rattle.tree_laws.proofs.law.a_tree_stays_one_where_it_is_looked_at.Goals as goal

pub returns : goal.returns
returns c = λ cols looked claimed n at owns root sheets rows cut put has free may t room cuts puts few. stays_looked cols has looked claimed n at owns root sheets rows cut put free may (looked_tree cols looked sheets root owns rows room t) cuts puts few
