use Rattle.tree_laws.proofs.TableTrees.{typed_table}
use Rattle.tree_laws.proofs.law.a_tree_is_a_table.Goals as goal

pub returns : goal.returns
returns c = λ cols looked sheets at owns root rows t read. typed_table cols at owns root rows looked sheets t read
