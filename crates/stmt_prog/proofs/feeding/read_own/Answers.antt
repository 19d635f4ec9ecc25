use Rattle.std.proofs.Common.{◌≡◌, ap, sym, ◌∙◌, subst, List, ℕ, rules, true}
use Rattle.std.specs.Prelude.{Some, None}
use Rattle.std.specs.Option.{is_some}
use Rattle.page_fmt.specs.Content.{content}
use Rattle.page_fmt.specs.Seen.{Looked}
use Rattle.plain_model.specs.declared.reply.Message.{Message}
use Rattle.plain_model.specs.Meaning.{shape}
use Rattle.plain_model.specs.Tables.{Tables}
use Rattle.table_walk.specs.Walk.{IsDone}
use Rattle.table_walk.proofs.Exits.{handed_on, if_ok, if_err}
use Rattle.page_tables.specs.Layout as layout
use Rattle.stmt_prog.specs.Feeding.{read, is_select, OverEach}
use Rattle.stmt_prog.specs.Refusing.{IfSaid, of_seen}
use Rattle.stmt_prog.specs.States.{course_of}
use Rattle.stmt_prog.specs.declared.state.State.TheVariants.{ScanOwn}
use Rattle.stmt_prog.proofs.FeedLemmas.{some_next, read_whole, own_goes_on, own_plans, own_bad, own_refused, own_answers}
use Rattle.stmt_prog.proofs.feeding.read_own.Goals as goal

pub returns-in_err-own-clause-refused : goal.returns-in_err-own-clause-refused
returns-in_err-own-clause-refused c =
    let h = c.args.head in
    let r = c.requires.reading in
    let slots : List (List ℕ) = content c.args.image.now in
    let P : Message → Tables → Type 0 = λ m tables. shape h.stmt tables ≡ Some m in
    handed_on (IfSaid (λ m. OverEach (read slots (course_of h (ScanOwn c.args.parts.0 c.args.parts.1 c.args.parts.2))) (P m))) c.from_residual.result (of_seen c.in_err-own.field-0.0) c.from_residual.ensures.1
    (own_bad h c.args.parts.0 c.args.parts.1 c.args.parts.2 c.requires.found r.2.0 r.2.1 slots r.1 c.in_err-own.field-0.0 c.in_err-own.ensures.bad P)

pub invariant_of-result : goal.invariant_of-result
invariant_of-result c =
    let some : is_some c.in_ok-own.own.next ≡ true = search rules in
    let w = some_next c.in_ok-own.own.next some in
    (c.requires.found, (c.in_ok-own.ensures.scan, c.in_ok-own.ensures.root ∙ c.requires.reading.1, w))

pub returns-then-is_some-clause-takes : goal.returns-then-is_some-clause-takes
returns-then-is_some-clause-takes c =
    let r = c.requires.reading in
    let some : is_some c.in_ok-own.own.next ≡ true = search rules in
    let w = some_next c.in_ok-own.own.next some in
    own_goes_on c.args.head c.args.parts.0 c.args.parts.1 c.args.parts.2 c.requires.found r.2.0 r.2.1 (content c.args.image.now) c.in_ok-own.own w.0 w.1 (c.in_ok-own.ensures.seen r.2.0 r.2.1)

pub invariant_of-result-then-not-is_select : goal.invariant_of-result-then-not-is_select
invariant_of-result-then-not-is_select c =
    let none : c.in_ok-own.own.next ≡ None = search rules in
    (c.requires.found, read_whole c.in_ok-own.own c.args.parts.1.root c.in_ok-own.ensures.scan none (c.in_ok-own.ensures.root ∙ c.requires.reading.1))

pub returns-then-not-is_select-clause-takes : goal.returns-then-not-is_select-clause-takes
returns-then-not-is_select-clause-takes c =
    let r = c.requires.reading in
    own_plans c.args.head c.args.parts.0 c.args.parts.1 c.args.parts.2 c.requires.found r.2.0 r.2.1 (content c.args.image.now) c.in_ok-own.own (c.in_ok-own.ensures.seen r.2.0 r.2.1)

pub answered-requires-clause-done : goal.answered-requires-clause-done
answered-requires-clause-done c =
    let none : c.in_ok-own.own.next ≡ None = search rules in
    subst (λ (l : List Looked). IsDone layout.shape.kids l (layout.first c.args.parts.1.root)) (sym c.seen.ensures.is) (read_whole c.in_ok-own.own c.args.parts.1.root c.in_ok-own.ensures.scan none (c.in_ok-own.ensures.root ∙ c.requires.reading.1))

pub returns-clause-takes : goal.returns-clause-takes
returns-clause-takes c =
    let r = c.requires.reading in
    let select : is_select c.args.head.stmt ≡ true = ap is_select (sym c.requires.lent) ∙ sym c.is_select.ensures ∙ c.if-not-is_select.false in
    if_ok c.answered.result (λ p e. own_answers c.args.head c.args.parts.0 c.args.parts.1 c.args.parts.2 c.requires.found r.2.0 r.2.1 (content c.args.image.now) c.seen.result.now p (c.seen.ensures.is ∙ c.in_ok-own.ensures.seen r.2.0 r.2.1) select e) c.answered.ensures.ends

pub returns-clause-refused : goal.returns-clause-refused
returns-clause-refused c =
    let r = c.requires.reading in
    let P : Message → Tables → Type 0 = λ m tables. shape c.args.head.stmt tables ≡ Some m in
    if_err c.answered.result (λ e said. own_refused c.args.head c.args.parts.0 c.args.parts.1 c.args.parts.2 c.requires.found r.2.0 r.2.1 (content c.args.image.now) c.seen.result.now e P (c.seen.ensures.is ∙ c.in_ok-own.ensures.seen r.2.0 r.2.1) said) c.answered.ensures.damaged
