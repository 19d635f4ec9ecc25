use Rattle.std.proofs.Common.{subst, sym, ap, ◌∙◌, List}
use Rattle.plain_model.specs.Statements.{is_of_rows}
use Rattle.std.specs.Prelude.{All}
use Rattle.page_fmt.specs.Seen.{Looked}
use Rattle.table_walk.specs.Tables.{MayPut}
use Rattle.table_walk.proofs.Exits.{handed_on}
use Rattle.stmt_prog.specs.declared.refusal.Refusal.{Refusal}
use Rattle.stmt_prog.specs.declared.state.State.TheVariants.{Planning}
use Rattle.stmt_prog.specs.Feeding.{OverEach}
use Rattle.stmt_prog.specs.Queues.{IsPlannedQueue}
use Rattle.stmt_prog.specs.Reading.{OfRows}
use Rattle.stmt_prog.specs.Refusing.{IfSaid}
use Rattle.stmt_prog.specs.States.{course_of}
use Rattle.stmt_prog.proofs.FeedLemmas.{effect_in}
use Rattle.stmt_prog.proofs.PlanLemmas.{plan_bad, queue_bad, plans, queue_is}
use Rattle.stmt_prog.proofs.writing.planned.Goals as goal

pub returns-in_err-effect-clause-damaged : goal.returns-in_err-effect-clause-damaged
returns-in_err-effect-clause-damaged c =
    let d = c.args.parts.1 in
    let e : Refusal = c.in_err-effect.field-0.0 in
    handed_on (IfSaid (λ m. OverEach (course_of c.args.head (Planning c.args.parts.0 d c.args.parts.2)) (λ tables. ⊥))) c.from_residual.result e c.from_residual.ensures.1
    (plan_bad c.args.head c.at.ensures.sound (sym (ap is_of_rows c.requires.lent) ∙ c.requires.rows) c.args.parts.0 d c.args.parts.2 c.requires.found e (subst (λ (l : List Looked). IfSaid (λ m. OfRows d.cols d.root l (λ rows. ⊥)) e) c.seen.ensures.is c.in_err-effect.ensures.damaged))

pub returns-in_err-queue-clause-damaged : goal.returns-in_err-queue-clause-damaged
returns-in_err-queue-clause-damaged c =
    let d = c.args.parts.1 in
    let e : Refusal = c.in_err-queue.field-0.0 in
    let f = c.in_ok-effect.effect in
    handed_on (IfSaid (λ m. OverEach (course_of c.args.head (Planning c.args.parts.0 d c.args.parts.2)) (λ tables. ⊥))) c.from_residual-in_err-queue.result e c.from_residual-in_err-queue.ensures.1
    (queue_bad c.args.head c.at.ensures.sound (sym (ap is_of_rows c.requires.lent) ∙ c.requires.rows) c.args.parts.0 d c.args.parts.2 c.requires.found f (effect_in c.seen.result.now c.args.parts.2.seen d.cols d.root c.args.stmt.now c.args.head.stmt f c.seen.ensures.is c.requires.lent c.in_ok-effect.ensures.is) e
    (subst (λ (l : List Looked). IfSaid (λ m. All (MayPut d.cols) f.puts → OfRows d.cols d.root l (λ rows. ⊥)) e) c.seen-2.ensures.is c.in_err-queue.ensures.damaged))

pub invariant_of-result : goal.invariant_of-result
invariant_of-result c =
    let f = c.in_ok-effect.effect in
    (c.requires.found.table, queue_is c.args.head.stmt c.args.parts.1 c.seen-2.result.now f.cuts f.puts c.in_ok-queue.queue c.requires.found.table c.in_ok-queue.ensures.queue)

pub returns-clause-plans : goal.returns-clause-plans
returns-clause-plans c =
    let d = c.args.parts.1 in
    let f = c.in_ok-effect.effect in
    plans c.args.head c.at.ensures.sound (sym (ap is_of_rows c.requires.lent) ∙ c.requires.rows) c.args.parts.0 d c.args.parts.2 c.requires.found f (effect_in c.seen.result.now c.args.parts.2.seen d.cols d.root c.args.stmt.now c.args.head.stmt f c.seen.ensures.is c.requires.lent c.in_ok-effect.ensures.is) c.in_ok-queue.queue
    (subst (λ (l : List Looked). IsPlannedQueue d l f.cuts f.puts c.in_ok-queue.queue) c.seen-2.ensures.is c.in_ok-queue.ensures.queue)
