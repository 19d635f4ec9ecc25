-- The sum so far is that of the key columns so far.
use Rattle.std.proofs.Common.{◌≡◌, ◌-◌, ◌^◌, min, take}
use Rattle.row_fmt.proofs.SizeLemmas.{key_sum}
use Rattle.row_fmt.proofs.sizes.key_size.Given as goal

abbrev pub invariant-loop-i : goal.invariant-loop-i
invariant-loop-i l = l.size ≡ min (key_sum (take l.i l.column-items) (take l.i l.row)) (2 ^ 64 - 1)
