use Rattle.page_fmt.specs.Content.{IsPage}
use Rattle.table_scan.proofs.tests.page.Given as goal

abbrev pub invariant-loop-i : goal.invariant-loop-i
invariant-loop-i l = IsPage l.image
