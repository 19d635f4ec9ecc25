use Rattle.std.proofs.Common.{length}
use Rattle.sys_cat.proofs.growing.+top.Given as goal

abbrev pub decreases-top : goal.decreases-top
decreases-top l = length l.cols.now
