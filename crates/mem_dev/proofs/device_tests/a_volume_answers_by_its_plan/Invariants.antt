use Rattle.std.proofs.Common.{◌≡◌}
use Rattle.std.specs.FinSet as set
use Rattle.mem_dev.specs.Out.{out_of}
use Rattle.mem_dev.proofs.device_tests.a_volume_answers_by_its_plan.Given as goal

abbrev pub invariant-loop-call : goal.invariant-loop-call
invariant-loop-call g l = out_of l.volume.folder ≡ set.empty
