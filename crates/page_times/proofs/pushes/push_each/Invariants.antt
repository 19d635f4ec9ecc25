use Rattle.std.proofs.Common.{◌≡◌}
use Rattle.snap_pages.specs.Shown.{counts, pins}
use Rattle.page_times.proofs.pushes.push_each.Given as goal

abbrev pub invariant-loop : goal.invariant-loop
invariant-loop l = record { same : pins l.pages ≡ pins l.fn.pages; there : counts l.pages ≡ counts l.fn.pages }
