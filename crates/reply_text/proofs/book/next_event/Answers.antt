use Rattle.std.proofs.Common.{◌≡◌, ◌+◌, ◌∷◌, List, ℕ, length, refl, sym, ap, subst, ◌∙◌, arith}
use Rattle.std.proofs.lemmas.Result.{err_from_is_err_and}
use Rattle.plain_model.specs.declared.event.Event.{Event}
use Rattle.reply_text.specs.Left.{left}
use Rattle.reply_text.specs.Steps.{StopsAt, TakesEvent, event_lines, event_of, Stops}
use Rattle.reply_text.proofs.BookLaws.{takes_event, event_long, stops_heading}
use Rattle.reply_text.proofs.Refusals.{exit_at, stops_at}
use Rattle.reply_text.proofs.book.next_event.Goals as goal

pub returns-in_err-whole_event-in-Some-heading_on-clause-refused :
    goal.returns-in_err-whole_event-in-Some-heading_on-clause-refused
returns-in_err-whole_event-in-Some-heading_on-clause-refused c =
    let p = err_from_is_err_and c.from_residual.result c.from_residual.ensures.1 in
    exit_at (StopsAt (left c.args.lines.now) c.args.lines.now.number) _ _ _ p.1 p.2
    (rw c.in-Some.ensures.lines (stops_at _ c.in-Some.line.now (left c.next.new.self) c.in-Some-heading_on.heading c.args.lines.now.number c.next.new.self.number (sym c.heading_on.ensures ∙ c.in-Some-heading_on.is) c.in-Some.ensures.number c.in_err-whole_event-in-Some-heading_on.ensures.refused))

pub returns-in_ok-whole_event-in-Some-heading_on-clause-event :
    goal.returns-in_ok-whole_event-in-Some-heading_on-clause-event
returns-in_ok-whole_event-in-Some-heading_on-clause-event c =
    let h = c.in_ok-whole_event-in-Some-heading_on.ensures.event in
    let known = takes_event c.in-Some.line.now (left c.next.new.self) (left c.whole_event.new.lines) c.in-Some-heading_on.heading h.0 (sym c.heading_on.ensures ∙ c.in-Some-heading_on.is) h.1 in
    rw (c.in-Some.ensures.lines, h.3) known

pub returns-in_ok-whole_event-in-Some-heading_on-clause-number :
    goal.returns-in_ok-whole_event-in-Some-heading_on-clause-number
returns-in_ok-whole_event-in-Some-heading_on-clause-number c =
    let h = c.in_ok-whole_event-in-Some-heading_on.ensures.event in
    let long : length (event_lines c.in_ok-whole_event-in-Some-heading_on.field-0) ≡ 1 + length h.0
    = ap (λ (e : Event). length (event_lines e)) h.3 ∙ event_long c.in-Some-heading_on.heading h.0 c.in-Some.line.now (left c.next.new.self) (left c.whole_event.new.lines) (sym c.heading_on.ensures ∙ c.in-Some-heading_on.is) h.1 in
    omega (arith, long, h.2, c.in-Some.ensures.number)

pub returns-in-None-clause-refused : goal.returns-in-None-clause-refused
returns-in-None-clause-refused c =
    let known = stops_heading c.in-Some.line.now (left c.next.new.self) (sym c.heading_on.ensures ∙ c.in-None.is) in
    (0, omega arith, subst (λ (ls : List (List ℕ)). Stops ls 0) (sym c.in-Some.ensures.lines) known)
