use Rattle.std.proofs.Common.{◌≡◌, map, take}
use Rattle.page_base.specs.Pages.{filled}
use Rattle.page_base.proofs.table.Table.filled.Given as goal

abbrev pub invariant-loop-count : goal.invariant-loop-count
invariant-loop-count g l = map (λ row. row.items) l.rows.items ≡ filled (take l.count-index l.counts) l.value
