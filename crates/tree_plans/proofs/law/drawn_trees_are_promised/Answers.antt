use Rattle.tree_plans.proofs.DrawnLemmas.{promised}
use Rattle.tree_plans.proofs.law.drawn_trees_are_promised.Goals as goal

pub returns : goal.returns
returns c = λ cols seen root cut put n ds has may room below draws. promised cols seen root cut put n ds has may room below draws
