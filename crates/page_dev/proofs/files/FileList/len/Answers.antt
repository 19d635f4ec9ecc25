use Rattle.std.proofs.Common.{◌≡◌, IsTrue, subst}
use Rattle.page_base.specs.Pages.{shape}
use Rattle.page_dev.specs.Files.{Files}
use Rattle.page_dev.proofs.FilesLemmas.{counted}
use Rattle.page_dev.proofs.files.FileList.len.Goals as goal

pub returns-clause-shape : goal.returns-clause-shape
returns-clause-shape g c =
    subst (λ (v : Files). IsTrue v.tells → shape v.content ≡ v.counts) c.self.view_is
    (counted g.P.PageFile.tells g.P.PageFile.content g.P.PageFile.count g.met.P.PageFile.counted c.self.inside.files.items)
