use Rattle.std.proofs.Common.{◌≡◌, map, take}
use Rattle.page_dev.specs.Faults.{total}
use Rattle.page_dev.proofs.files.FileList.all_faults.Given as goal

abbrev pub invariant-loop-file : goal.invariant-loop-file
invariant-loop-file g l = l.sum ≡ total (map g.P.PageFile.failures (take l.file-index l.file-items))
