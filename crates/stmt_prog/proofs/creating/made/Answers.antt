use Rattle.std.proofs.Common.{◌≡◌, subst, ◌∙◌, List}
use Rattle.page_fmt.specs.Seen.{Looked}
use Rattle.sys_cat.specs.declared.desc.TableDesc.{TableDesc}
use Rattle.sys_cat.specs.Lists.{IsDesc}
use Rattle.sys_cat.specs.Rows.{zero_root}
use Rattle.table_walk.proofs.Exits.{handed_on}
use Rattle.stmt_prog.specs.declared.refusal.Refusal.{Refusal}
use Rattle.stmt_prog.specs.declared.state.State.TheVariants.{Defining}
use Rattle.stmt_prog.specs.Feeding.{OverEach}
use Rattle.stmt_prog.specs.Heads.{new_cols}
use Rattle.stmt_prog.specs.Queues.{IsMadeQueue}
use Rattle.stmt_prog.specs.Reading.{OfBases}
use Rattle.stmt_prog.specs.Refusing.{IfSaid}
use Rattle.stmt_prog.specs.States.{course_of}
use Rattle.plain_model.specs.Statements.{table_named}
use Rattle.stmt_prog.proofs.MadeLemmas.{made_bad, made_plans, made_queue}
use Rattle.stmt_prog.proofs.creating.made.Goals as goal

pub returns-in_err-queue-clause-damaged : goal.returns-in_err-queue-clause-damaged
returns-in_err-queue-clause-damaged c =
    let e : Refusal = c.in_err-queue.field-0.0 in
    handed_on (IfSaid (λ m. OverEach (course_of c.args.head (Defining c.args.zero c.args.number)) (λ tables. ⊥))) c.from_residual-in_err-queue.result e c.from_residual-in_err-queue.ensures.1
    (made_bad c.args.head c.args.zero c.args.number c.requires.lacking e (subst (λ (l : List Looked). IfSaid (λ m. OfBases l (λ ds tables. ⊥)) e) c.seen.ensures.is c.in_err-queue.ensures.damaged))

pub invariant_of-result : goal.invariant_of-result
invariant_of-result c = (tt, made_queue c.in_ok-desc.desc c.seen.result.now c.in_ok-queue.queue c.in_ok-desc.ensures.desc c.in_ok-queue.ensures.queue c.in_ok-queue.ensures.told)

pub returns-clause-plans : goal.returns-clause-plans
returns-clause-plans c =
    let h = c.args.head in
    let named : c.name.result ≡ table_named h.stmt = c.name.ensures in
    let d : TableDesc = record { name = table_named h.stmt; number = c.args.number; root = zero_root; cols = new_cols h.stmt } in
    let is : c.in_ok-desc.desc ≡ d = c.in_ok-desc.ensures.is ∙ (λ i. record { name = named i; number = c.args.number; root = zero_root; cols = new_cols (c.requires.lent i) }) in
    made_plans h c.args.zero c.args.number c.requires.lacking (subst IsDesc is c.in_ok-desc.ensures.desc) c.in_ok-queue.queue
    (subst (λ (l : List Looked). IsMadeQueue d l c.in_ok-queue.queue) c.seen.ensures.is (subst (λ x. IsMadeQueue x c.seen.result.now c.in_ok-queue.queue) is c.in_ok-queue.ensures.queue))
