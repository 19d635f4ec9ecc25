-- One more number is in the sum.
use Rattle.std.proofs.Common.{rules, ℤ, ◌+ℤ◌, ◌+◌, subst, sym, ap, ◌∙◌, to_z}
use Rattle.std.proofs.lemmas.Int.{to_z-of_z}
use Rattle.std.specs.Int.{w64, w128}
use Rattle.stmt_eval.proofs.TotalLemmas.{IsSummed, summed_more}
use Rattle.stmt_eval.proofs.totals.total.Goals as goal

pub loop-row-preserved : goal.loop-row-preserved
loop-row-preserved c =
    let number = to_z-of_z w64 c.number_or_zero.result (search rules) ∙ c.number_or_zero.ensures in
    subst (λ (sum : ℤ). IsSummed c.args.place c.args.taken.now (c.loop-row.row-index + 1) sum) (sym (to_z-of_z w128 c.added-sum.result (search rules)))
    (summed_more c.args.place c.args.taken.now c.loop-row.row-index c.row-item.result (to_z w128 c.loop-row.sum-bits) c.added-sum.result c.loop-row-test.true c.row-item.is
    (c.added-sum.ensures.sum ∙ ap (λ (n : ℤ). to_z w128 c.loop-row.sum-bits +ℤ n) number) c.added-sum.ensures.low c.added-sum.ensures.high c.loop-row.invariant)
