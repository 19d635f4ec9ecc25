use Rattle.std.proofs.Common.{◌≡◌, List, ℕ}
use Rattle.page_fmt.specs.Spelling.{table}
use Rattle.page_fmt.specs.Places.{moved}
use Rattle.page_fmt.proofs.MovingLemmas.{last_moved}
use Rattle.page_fmt.proofs.moving.move_offsets.Given as goal

abbrev pub invariant-loop-i : goal.invariant-loop-i
invariant-loop-i l = (os : List ℕ) → l.initial.bytes ≡ table os → l.bytes ≡ table (last_moved (moved l.old l.new) os l.i)
