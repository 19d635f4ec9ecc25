use Rattle.std.proofs.Common.{◌∙◌, ap, length, arith, length-append}
use Rattle.table_pages.proofs.tests.ints.Goals as goal

pub loop-number-init : goal.loop-number-init
loop-number-init c = ap length c.new-row.ensures

pub loop-number-preserved : goal.loop-number-preserved
loop-number-preserved c = ap length c.in_ok-push.ensures.ok ∙ length-append c.loop-number.row _ ∙ (let i = c.loop-number.invariant in omega arith)
