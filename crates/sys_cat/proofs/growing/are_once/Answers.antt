use Rattle.std.proofs.Common.{arith}
use Rattle.sys_cat.proofs.CountLemmas.{once_more, once_not}
use Rattle.sys_cat.proofs.growing.are_once.Goals as goal

pub returns-then-count_at-gt1 : goal.returns-then-count_at-gt1
returns-then-count_at-gt1 c = once_not c.args.cols.now c.args.n c.loop-i.i c.loop-i-test.true (omega (arith, c.count_at.ensures))

pub loop-i-preserved : goal.loop-i-preserved
loop-i-preserved c = once_more c.args.cols.now c.loop-i.i c.loop-i.invariant (omega (arith, c.count_at.ensures))
