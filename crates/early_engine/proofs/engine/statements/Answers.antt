use Rattle.std.proofs.Common.{◌≡◌, ◌≤◌, ◌∙◌, List, length, ap, take, arith}
use Rattle.std.specs.Prelude.{sum_by}
use Rattle.plain_model.specs.declared.stmt.Stmt.{Stmt}
use Rattle.std.proofs.lemmas.List.Sums.{sum_by_more_le}
use Rattle.early_engine.proofs.engine.statements.Goals as goal

pub overflow_add-sum : goal.overflow_add-sum
overflow_add-sum c =
    let more = sum_by_more_le length c.as_slice-script-items.result.now c.loop-script.script-index c.script-item.result c.loop-script-test.true in
    let inv : c.loop-script.sum ≡ sum_by length (take c.loop-script.script-index c.as_slice-script-items.result.now) = c.loop-script.invariant in
    let len = c.len-sum.ensures ∙ ap length c.script-item.is in
    let all : sum_by length c.as_slice-script-items.result.now ≡ sum_by length c.args.scripts.now = ap (λ (ss : List (List Stmt)). sum_by length ss) c.as_slice-script-items.ensures.value in
    let short : sum_by length c.args.scripts.now ≤ 20000 = c.as_slice-script-items.ensures.kept.short in
    omega (arith, more, inv, len, all, short)
