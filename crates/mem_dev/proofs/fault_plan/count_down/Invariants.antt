use Rattle.mem_dev.proofs.CountDown.{Lowered}
use Rattle.mem_dev.proofs.fault_plan.count_down.Given as goal

abbrev pub invariant-loop-call : goal.invariant-loop-call
invariant-loop-call l = Lowered l.initial.calls l.calls l.call-index
