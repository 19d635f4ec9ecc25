use Rattle.mem_dev.proofs.CountDown.{lowered_more, lowered_all}
use Rattle.mem_dev.proofs.fault_plan.count_down.Goals as goal

pub loop-call-preserved : goal.loop-call-preserved
loop-call-preserved c = lowered_more _ _ _ _ c.loop-call-test.true c.saturating_sub.ensures c.loop-call.invariant

pub returns : goal.returns
returns c = lowered_all _ _ _ c.loop-call-test.false c.loop-call.invariant
