use Rattle.std.proofs.Common.{◌≡◌, length}
use Rattle.table_pages.proofs.tests.ints.Given as goal

abbrev pub invariant-loop-number : goal.invariant-loop-number
invariant-loop-number l = length l.row ≡ l.number-index
