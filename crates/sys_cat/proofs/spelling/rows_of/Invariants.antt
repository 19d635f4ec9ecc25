use Rattle.std.proofs.Common.{◌≡◌, ◌∷◌, take}
use Rattle.sys_cat.specs.Rows.{table_row, column_rows}
use Rattle.sys_cat.proofs.spelling.rows_of.Given as goal

abbrev pub invariant-loop-i : goal.invariant-loop-i
invariant-loop-i l = l.rows ≡ table_row l.desc ∷ column_rows l.desc.name 1 (take l.i l.desc.cols)
