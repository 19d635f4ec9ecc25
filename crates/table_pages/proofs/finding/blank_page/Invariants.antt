use Rattle.std.proofs.Common.{◌<◌, ℕ}
use Rattle.early_pages.specs.Shown.{img}
use Rattle.early_pages.specs.Slots.{slots_of}
use Rattle.table_pages.specs.Layout.{IsBlankAt}
use Rattle.table_pages.proofs.finding.blank_page.Given as goal

abbrev pub invariant-loop-i : goal.invariant-loop-i
invariant-loop-i g l = (k : ℕ) → k < l.i → ¬ IsBlankAt (slots_of (img l.pages)) k
