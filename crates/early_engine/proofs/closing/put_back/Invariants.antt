use Rattle.early_pages.specs.Shown.{count}
use Rattle.early_engine.specs.Disks.{disk_of}
use Rattle.early_engine.proofs.CloseLemmas.{Handed}
use Rattle.early_engine.proofs.closing.put_back.Given as goal

abbrev pub invariant-loop-volume : goal.invariant-loop-volume
invariant-loop-volume g l = Handed l.fn.pages l.pages
    (disk_of g.V.Volume.tells g.V.Volume.folder g.V.Volume.out g.V.Volume.failures g.V.Volume.file_failures l.fn.volume)
    (disk_of g.V.Volume.tells g.V.Volume.folder g.V.Volume.out g.V.Volume.failures g.V.Volume.file_failures l.volume) l.end

abbrev pub decreases-loop-volume : goal.decreases-loop-volume
decreases-loop-volume g l = count l.pages
