use Rattle.std.proofs.Common.{◌≡◌, take, false}
use Rattle.page_base.specs.Pages.{filled}
use Rattle.sparse_set.proofs.sparse_files.empty_maps.Given as goal

abbrev pub invariant-loop-file : goal.invariant-loop-file
invariant-loop-file g l = l.maps.items ≡ filled (take l.file l.files.counts) false
