use Rattle.std.proofs.Common.{subst, sym, ap, ◌∙◌, List}
use Rattle.page_fmt.specs.Seen.{Looked}
use Rattle.table_walk.proofs.Exits.{handed_on}
use Rattle.stmt_prog.specs.declared.refusal.Refusal.{Refusal}
use Rattle.stmt_prog.specs.declared.state.State.TheVariants.{Planning}
use Rattle.stmt_prog.specs.Feeding.{OverEach}
use Rattle.stmt_prog.specs.Heads.{drops}
use Rattle.stmt_prog.specs.Queues.{IsGoneQueue}
use Rattle.stmt_prog.specs.Reading.{OfBases}
use Rattle.stmt_prog.specs.Refusing.{IfSaid}
use Rattle.stmt_prog.specs.States.{course_of}
use Rattle.stmt_prog.proofs.GoneLemmas.{gone_bad, gone_plans, gone_queue}
use Rattle.stmt_prog.proofs.dropping.gone.Goals as goal

pub returns-in_err-queue-clause-damaged : goal.returns-in_err-queue-clause-damaged
returns-in_err-queue-clause-damaged c =
    let e : Refusal = c.in_err-queue.field-0.0 in
    handed_on (IfSaid (λ m. OverEach (course_of c.args.head (Planning c.args.parts.0 c.args.parts.1 c.args.parts.2)) (λ tables. ⊥))) c.from_residual.result e c.from_residual.ensures.1
    (gone_bad c.args.head c.args.parts.0 c.args.parts.1 c.args.parts.2 c.requires.found e (subst (λ (l : List Looked). IfSaid (λ m. OfBases l (λ ds tables. ⊥)) e) c.seen.ensures.is c.in_err-queue.ensures.damaged))

pub invariant_of-result : goal.invariant_of-result
invariant_of-result c = (c.requires.found.table, gone_queue c.args.parts.1 c.seen.result.now c.seen-2.result.now c.in_ok-queue.queue c.in_ok-queue.ensures.queue)

pub returns-clause-plans : goal.returns-clause-plans
returns-clause-plans c =
    gone_plans c.args.head c.args.parts.0 c.args.parts.1 c.args.parts.2 c.requires.found (sym (ap drops c.requires.lent) ∙ c.requires.drops) c.in_ok-queue.queue
    (subst (λ (l : List Looked). IsGoneQueue c.args.parts.1 c.args.parts.0.seen l c.in_ok-queue.queue) c.seen-2.ensures.is (subst (λ (l : List Looked). IsGoneQueue c.args.parts.1 l c.seen-2.result.now c.in_ok-queue.queue) c.seen.ensures.is c.in_ok-queue.ensures.queue))
