-- Each call is left fewer tables.
use Rattle.std.proofs.Common.{length}
use Rattle.stmt_prog.proofs.reading.+named.Given as goal

abbrev pub decreases-named : goal.decreases-named
decreases-named l = length l.descs.now
