use Rattle.early_pages.specs.Shown.{img}
use Rattle.early_pages.specs.Slots.{slots_of}
use Rattle.table_pages.specs.Layout.{Passed}
use Rattle.table_pages.proofs.finding.find.Given as goal

abbrev pub invariant-loop-i : goal.invariant-loop-i
invariant-loop-i g l = Passed (slots_of (img l.pages)) l.i l.name
