-- One more value is counted, and the last one.
use Rattle.std.proofs.Common.{ap, ◌∙◌, arith}
use Rattle.std.proofs.lemmas.List.{take_all}
use Rattle.row_fmt.proofs.SizeLemmas.{values_size, values_size-more, row_size}
use Rattle.row_fmt.proofs.sizes.size.Goals as goal

pub loop-value-preserved : goal.loop-value-preserved
loop-value-preserved c =
    omega (arith, values_size-more c.as_slice-value-items.result.now c.loop-value.value-index c.value-item.result c.loop-value-test.true c.value-item.is, c.value_size.ensures, c.saturating_add-size.ensures, c.loop-value.invariant)

pub returns : goal.returns
returns c =
    omega (arith, row_size c.args.row.now, ap values_size (take_all c.loop-value.value-index c.as_slice-value-items.result.now c.loop-value-test.false ∙ c.as_slice-value-items.ensures), c.loop-value.invariant)
