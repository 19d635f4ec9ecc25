use Rattle.std.proofs.Common.{◌*◌, ap, ◌∙◌, sym, arith}
use Rattle.page_dev.proofs.PageFileLemmas.{length-concat}
use Rattle.mem_dev.specs.Store.{content_of}
use Rattle.mem_dev.specs.StoreLaws.{AreImages-sized, length-content}
use Rattle.mem_dev.proofs.kept_file.store_of.Goals as goal

pub returns-clause-why : goal.returns-clause-why
returns-clause-why c = (
  length-concat (content_of c.args.store) (AreImages-sized (content_of c.args.store) c.count-count.ensures.images) ∙ ap (λ n. 8192 * n) (length-content c.args.store ∙ sym c.count-count.ensures.count),
  λ e. c.if-count-pages.false (omega arith),
)
