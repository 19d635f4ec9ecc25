use Rattle.std.proofs.Common.{ap, ◌∙◌}
use Rattle.page_base.specs.Pages.{shape, image_at, blank}
use Rattle.early_pages.proofs.MapLemmas.{page_or-filled, shape-filled}
use Rattle.early_pages.proofs.early_pages.SnapPages.new.Goals as goal

pub returns-clause-source : goal.returns-clause-source
returns-clause-source g c = λ i p. (ap (λ images. image_at images p) c.in_ok-images.ensures ∙ page_or-filled c.args.pages.now p blank) i

pub returns-clause-counts : goal.returns-clause-counts
returns-clause-counts g c = ap shape c.in_ok-images.ensures ∙ shape-filled c.args.pages.now blank
