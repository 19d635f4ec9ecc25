use Rattle.std.proofs.Common.{◌≡◌, map, take}
use Rattle.tree_laws.specs.Kids.{visit_of}
use Rattle.key_tree.proofs.chosen.visits_of.Given as goal

abbrev pub invariant-loop-child : goal.invariant-loop-child
invariant-loop-child l = l.visits.items ≡ map (visit_of l.from l.level) (take l.child-index l.children)
