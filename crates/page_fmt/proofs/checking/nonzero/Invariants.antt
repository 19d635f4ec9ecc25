use Rattle.std.proofs.Common.{◌≡◌, ◌-◌}
use Rattle.page_fmt.specs.Faults.{first_nonzero}
use Rattle.page_fmt.proofs.checking.nonzero.Given as goal

abbrev pub invariant-loop-i : goal.invariant-loop-i
invariant-loop-i l = first_nonzero l.page l.i (l.to - l.i) ≡ first_nonzero l.page l.from (l.to - l.from)
