use Rattle.std.proofs.Common.{◌≡◌, ◌*◌, false}
use Rattle.early_pages.specs.Sparse.{some_copied}
use Rattle.early_pages.proofs.sparse_set.SparseSet.has_group.Given as goal

abbrev pub invariant-loop-place : goal.invariant-loop-place
invariant-loop-place g l = some_copied l.self l.file (8 * l.group) l.place ≡ false
