use Rattle.std.proofs.Common.{◌∙◌}
use Rattle.page_fmt.proofs.CheckLemmas.{first_nonzero-step}
use Rattle.page_fmt.proofs.checking.nonzero.Goals as goal

pub loop-i-preserved : goal.loop-i-preserved
loop-i-preserved c = first_nonzero-step c.args.page.now c.loop-i.i c.args.to c.loop-i-test.true c.if-page-i-ne0.false ∙ c.loop-i.invariant
