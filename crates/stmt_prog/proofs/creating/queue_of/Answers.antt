use Rattle.std.proofs.Common.{List, sym, subst}
use Rattle.std.specs.Prelude.{All}
use Rattle.page_base.specs.declared.value.Value.{Value}
use Rattle.sys_cat.specs.Rows.{table_0}
use Rattle.sys_cat.proofs.PutLemmas.{rows_put, good}
use Rattle.table_walk.specs.Tables.{MayPut}
use Rattle.stmt_prog.proofs.MadeLemmas.{made_of}
use Rattle.stmt_prog.proofs.creating.queue_of.Goals as goal

pub zero_plan-requires-clause-puts : goal.zero_plan-requires-clause-puts
zero_plan-requires-clause-puts c =
    let d = c.args.desc in
    subst (λ (rows : List (List Value)). All (MayPut table_0) rows) (sym c.in_ok-rows.ensures) (rows_put d c.requires.desc.head c.requires.desc.named (good d.cols c.requires.desc.sound))

pub returns-clause-queue : goal.returns-clause-queue
returns-clause-queue c = made_of c.args.desc c.args.zero.now c.in_ok-plan.plan.new_pages c.in_ok-plan.plan.edits c.in_ok-rows.rows c.new.result c.in_ok-with_root.field-0 c.in_ok-with_root.ensures.queue c.in_ok-rows.ensures c.new.ensures c.in_ok-plan.ensures.plan
