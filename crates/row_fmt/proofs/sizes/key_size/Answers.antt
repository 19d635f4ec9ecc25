-- One more column is counted where it is in the key, and the last one.
use Rattle.std.proofs.Common.{◌≡◌, ◌<◌, ◌≤◌, length, take, sym, ap, ◌∙◌, arith}
use Rattle.std.proofs.lemmas.List.{take_all}
use Rattle.row_fmt.proofs.SizeLemmas.{key_sum, key_sum-counted, key_sum-skipped, key_size_is}
use Rattle.row_fmt.proofs.sizes.key_size.Goals as goal
use Rattle.row_fmt.proofs.sizes.key_size.Goals.{then-column-ne0, else-column-ne0}

pub loop-i-preserved : goal.loop-i-preserved
loop-i-preserved c =
    let lt_row : c.loop-i.i < length c.args.row.now = omega (arith, c.requires, c.loop-i-test.true, ap length c.as_slice-column-items.ensures) in
    elim c.if-column-ne0.branch [
      | then-column-ne0 w ↦
          let counted = key_sum-counted c.as_slice-column-items.result.now c.args.row.now c.loop-i.i c.column-item.result w.at.result.now c.loop-i-test.true lt_row c.column-item.is (sym (w.at.ensures.value w.at.result.now)) w.if-column-ne0.true in
          omega (arith, counted, w.size-is, w.saturating_add-size.ensures, w.value_size.ensures, c.loop-i.invariant)
      | else-column-ne0 w ↦
          let skipped = key_sum-skipped c.as_slice-column-items.result.now c.args.row.now c.loop-i.i c.column-item.result c.loop-i-test.true lt_row c.column-item.is w.if-column-ne0.false in
          omega (arith, skipped, w.size-is, c.loop-i.invariant)
    ]

pub returns : goal.returns
returns c =
    let columns : take c.loop-i.i c.as_slice-column-items.result.now ≡ c.args.cols.now = take_all c.loop-i.i c.as_slice-column-items.result.now c.loop-i-test.false ∙ c.as_slice-column-items.ensures in
    let long : length c.args.row.now ≤ c.loop-i.i = omega (arith, c.requires, c.loop-i-test.false, ap length c.as_slice-column-items.ensures) in
    let row : take c.loop-i.i c.args.row.now ≡ c.args.row.now = take_all c.loop-i.i c.args.row.now long in
    omega (arith, key_size_is c.args.cols.now c.args.row.now, (let same : key_sum (take c.loop-i.i c.as_slice-column-items.result.now) (take c.loop-i.i c.args.row.now) ≡ key_sum c.args.cols.now c.args.row.now = (λ i. key_sum (columns i) (row i)) in same), c.loop-i.invariant)
