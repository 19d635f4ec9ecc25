-- Each call is left fewer columns.
use Rattle.std.proofs.Common.{length}
use Rattle.sql_eval.proofs.ordering.+compare_rows.Given as goal

abbrev pub decreases-compare_rows : goal.decreases-compare_rows
decreases-compare_rows l = length l.by.now
