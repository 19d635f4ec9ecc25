-- The columns grow fewer.
use Rattle.std.proofs.Common.{length}
use Rattle.row_fmt.proofs.reader.+may_be_null.Given as goal

abbrev pub decreases-may_be_null : goal.decreases-may_be_null
decreases-may_be_null l = length l.columns.now
