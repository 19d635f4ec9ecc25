use Rattle.std.proofs.Common.{◌≡◌, drop}
use Rattle.tree_laws.specs.Keys.{key_column}
use Rattle.key_tree.proofs.keys.key_column.Given as goal

abbrev pub invariant-loop-column : goal.invariant-loop-column
invariant-loop-column l = key_column l.cols l.place ≡ key_column (drop l.column-index l.cols) l.place
