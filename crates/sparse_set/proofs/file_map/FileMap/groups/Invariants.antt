use Rattle.std.proofs.Common.{◌≡◌, ◌≤◌, ◌*◌}
use Rattle.sparse_set.specs.Groups.{groups_in}
use Rattle.sparse_set.specs.Words.{has}
use Rattle.sparse_set.proofs.file_map.FileMap.groups.Given as goal

abbrev pub invariant-loop-word : goal.invariant-loop-word
invariant-loop-word l = (l.groups ≡ groups_in (has l.word-items) (8 * l.word-index)) × (l.groups ≤ 8 * l.word-index)
