use Rattle.std.proofs.Common.{◌≡◌, drop}
use Rattle.plain_model.specs.Tables.{key_cell}
use Rattle.table_walk.proofs.key.key_cell.Given as goal

abbrev pub invariant-loop-i : goal.invariant-loop-i
invariant-loop-i l = key_cell l.cols l.row l.place ≡ key_cell (drop l.i l.cols) (drop l.i l.row) l.place
