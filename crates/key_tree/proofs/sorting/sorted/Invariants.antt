use Rattle.std.proofs.Common.{◌≡◌, ◌++◌, map}
use Rattle.key_tree.specs.Sorting.{child_in}
use Rattle.key_tree.proofs.sorting.sorted.Given as goal

abbrev pub invariant-loop-least : goal.invariant-loop-least
invariant-loop-least l = map child_in l.initial.least-iterator ≡ l.sorted.items ++ map child_in l.least-iterator
