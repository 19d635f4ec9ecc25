use Rattle.std.proofs.Common.{take}
use Rattle.page_fmt.specs.Seen.{look}
use Rattle.table_walk.specs.Tables.{cells, AreRows}
use Rattle.table_walk.specs.Sought.{IsSought}
use Rattle.table_walk.proofs.rows.gathered.Given as goal

abbrev pub invariant-loop-visit : goal.invariant-loop-visit
invariant-loop-visit l = IsSought l.cols l.keys (cells (look l.seen) (take l.visit-index l.done)) l.rows × AreRows l.cols (cells (look l.seen) (take l.visit-index l.done))
