use Rattle.std.proofs.Common.{rules, refl, ◌∙◌}
use Rattle.stmt_prog.proofs.MadeLemmas.{queue_for}
use Rattle.stmt_prog.proofs.creating.with_root.Goals as goal

pub returns-clause-queue : goal.returns-clause-queue
returns-clause-queue c =
    queue_for c.args.desc c.args.plan.new_pages c.in-Some.at c.args.plan.edits c.as_slice.result.now c.as_slice-2.result.now c.in_ok-root_edit.field-0 _ (c.as_slice.ensures.value ∙ c.into_vec-edits.ensures) (c.as_slice-2.ensures ∙ c.in_ok-row.ensures) c.in-Some.ensures c.in_ok-root_edit.ensures
    (search rules) (search rules) refl refl (search rules)
