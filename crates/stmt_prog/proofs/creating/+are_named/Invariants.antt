-- Each call is left fewer columns.
use Rattle.std.proofs.Common.{length}
use Rattle.stmt_prog.proofs.creating.+are_named.Given as goal

abbrev pub decreases-are_named : goal.decreases-are_named
decreases-are_named l = length l.columns.now
