-- The slots so far.
use Rattle.std.proofs.Common.{◌≡◌, take, slice_index_or}
use Rattle.page_fmt.specs.Seen.{Looked}
use Rattle.stmt_prog.proofs.dropping.slots_of.Given as goal

abbrev pub invariant-loop-j : goal.invariant-loop-j
invariant-loop-j l = (d : Looked) → l.slots.items ≡ take l.j (slice_index_or l.own l.i d).slots
