use Rattle.std.proofs.Common.{◌≡◌, true}
use Rattle.sys_cat.specs.Growing.{are_once}
use Rattle.sys_cat.proofs.growing.are_once.Given as goal

abbrev pub invariant-loop-i : goal.invariant-loop-i
invariant-loop-i l = are_once l.cols l.i ≡ true
