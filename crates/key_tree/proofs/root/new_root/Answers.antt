use Rattle.key_tree.proofs.NewRootLemmas.{new_table}
use Rattle.key_tree.proofs.root.new_root.Goals as goal

pub returns : goal.returns
returns c = new_table
