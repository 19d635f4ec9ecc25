-- The statement stays the one with which the program began.
use Rattle.std.proofs.Common.{◌≡◌}
use Rattle.stmt_prog.proofs.tests.Disk.run.Given as goal

abbrev pub invariant-loop : goal.invariant-loop
invariant-loop l = l.stmt ≡ l.prog.stmt
