use Rattle.std.proofs.Common.{◌≡◌, ◌-◌, ◌*◌}
use Rattle.page_fmt.specs.Faults.{first_wrong}
use Rattle.page_fmt.specs.Content.{offsets_at}
use Rattle.page_fmt.proofs.checking.wrong_offset.Given as goal

abbrev pub invariant-loop-i : goal.invariant-loop-i
invariant-loop-i l = first_wrong l.end l.before (8190 - 2 * l.i) (offsets_at l.page (8190 - 2 * l.i) (l.count - l.i)) ≡ first_wrong l.end 0 8190 (offsets_at l.page 8190 l.count)
