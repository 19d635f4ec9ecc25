-- The columns grow fewer.
use Rattle.std.proofs.Common.{length}
use Rattle.row_fmt.proofs.fitting.+fits_columns.Given as goal

abbrev pub decreases-fits_columns : goal.decreases-fits_columns
decreases-fits_columns l = length l.columns.now
