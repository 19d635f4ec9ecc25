use Rattle.std.proofs.Common.{length, ◌-◌}
use Rattle.key_tree.proofs.ChosenLemmas.{ChosenSoFar}
use Rattle.key_tree.proofs.chosen.one_for.Given as goal

abbrev pub invariant-loop-at : goal.invariant-loop-at
invariant-loop-at l = ChosenSoFar l.key l.children l.at

abbrev pub decreases-loop-at : goal.decreases-loop-at
decreases-loop-at l = length l.children - l.at
