use Rattle.std.proofs.Common.{take}
use Rattle.std.specs.Prelude.{All}
use Rattle.table_walk.specs.Tables.{MayPut}
use Rattle.table_walk.proofs.limits.may_put.Given as goal

abbrev pub invariant-loop-row : goal.invariant-loop-row
invariant-loop-row l = All (MayPut l.cols) (take l.row-index l.rows)
