use Rattle.std.proofs.Common.{◌+◌, ◌-◌, ◌^◌, min, ap, ◌∙◌}
use Rattle.page_dev.specs.Files.{Files}
use Rattle.page_dev.proofs.FilesLemmas.{total_more, total_all}
use Rattle.page_dev.proofs.files.FileList.all_faults.Goals as goal

pub loop-file-preserved : goal.loop-file-preserved
loop-file-preserved g c =
    total_more g.P.PageFile.failures _ _ c.loop-file.sum _ c.file-item.result c.loop-file-test.true c.file-item.is
    (c.saturating_add-sum.ensures ∙ ap (λ n. min (c.loop-file.sum + n) (2 ^ 64 - 1)) c.faults.ensures) c.loop-file.invariant

pub returns : goal.returns
returns g c =
    total_all g.P.PageFile.failures c.self.inside.files.items _ _ _ _ c.loop-file-test.false c.deref-file-items.ensures.value (ap (λ (v : Files). v.failures) c.self.view_is) c.loop-file.invariant
