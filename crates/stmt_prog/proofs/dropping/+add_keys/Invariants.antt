-- Each call is left fewer columns.
use Rattle.std.proofs.Common.{length}
use Rattle.stmt_prog.proofs.dropping.+add_keys.Given as goal

abbrev pub decreases-add_keys : goal.decreases-add_keys
decreases-add_keys l = length l.columns.now
