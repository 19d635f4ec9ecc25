use Rattle.std.proofs.Common.{◌≡◌, ◌≤◌}
use Rattle.early_pages.specs.Sparse.{copied_groups}
use Rattle.early_pages.proofs.sparse_set.SparseSet.size_on_disk.Given as goal

abbrev pub invariant-loop-group : goal.invariant-loop-group
invariant-loop-group g l = (l.groups ≡ copied_groups l.self l.file l.group) × (l.groups ≤ l.group)
