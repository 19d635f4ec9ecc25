use Rattle.std.proofs.Common.{◌≡◌, ◌-◌, ◌*◌}
use Rattle.page_fmt.specs.Content.{offsets_at, next_start, row_end}
use Rattle.page_fmt.proofs.reading.next_row.Given as goal

abbrev pub invariant-loop-i : goal.invariant-loop-i
invariant-loop-i l = next_start (row_end l.page) (offsets_at l.page (8190 - 2 * l.i) (l.count - l.i)) ≡ next_start (row_end l.page) (offsets_at l.page (8190 - 2 * l.from) (l.count - l.from))
