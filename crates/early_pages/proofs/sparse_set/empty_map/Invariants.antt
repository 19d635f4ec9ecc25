use Rattle.std.proofs.Common.{◌≡◌, take}
use Rattle.early_pages.proofs.sparse_set.empty_map.Given as goal

abbrev pub invariant-loop-file : goal.invariant-loop-file
invariant-loop-file g l = l.counts.items ≡ take l.file l.files.counts
