-- The sum so far is that of the bytes for NULLs and of the values so far.
use Rattle.std.proofs.Common.{◌≡◌, ◌+◌, ◌-◌, ◌^◌, min, length, take}
use Rattle.row_fmt.specs.Rows.{null_bytes}
use Rattle.row_fmt.proofs.SizeLemmas.{values_size}
use Rattle.row_fmt.proofs.sizes.size.Given as goal

abbrev pub invariant-loop-value : goal.invariant-loop-value
invariant-loop-value l = l.size ≡ min (null_bytes (length l.row) + values_size (take l.value-index l.value-items)) (2 ^ 64 - 1)
