use Rattle.std.proofs.Common.{◌≢◌, ◌<◌}
use Rattle.page_base.specs.declared.numbers.SnapNo.{SnapNo}
use Rattle.snap_cat.specs.Catalog.{snap_at}
use Rattle.snap_cat.proofs.catalog.SnapCat.find.Given as goal

abbrev pub invariant-loop-s : goal.invariant-loop-s
invariant-loop-s l = (k : SnapNo) → k.0 < l.s → (snap_at l.self k).name ≢ l.name
