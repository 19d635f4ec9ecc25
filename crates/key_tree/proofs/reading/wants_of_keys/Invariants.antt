use Rattle.std.proofs.Common.{◌≡◌}
use Rattle.tree_laws.specs.Keys.{key_columns}
use Rattle.key_tree.proofs.ReadLemmas.{LookedSoFar}
use Rattle.key_tree.proofs.reading.wants_of_keys.Given as goal

abbrev pub invariant-loop-key : goal.invariant-loop-key
invariant-loop-key l = record { keys : l.tree.keys ≡ key_columns l.cols; looked : LookedSoFar l.cols l.seen l.fn.root l.keys l.key-index }
