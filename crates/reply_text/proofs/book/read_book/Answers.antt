use Rattle.std.proofs.Common.{◌≡◌, ◌<◌, ◌+◌, length, refl, sym, ap, ◌∙◌, arith, length-append}
use Rattle.std.proofs.lemmas.Result.{err_from_is_err_and}
use Rattle.reply_text.specs.Left.{left}
use Rattle.reply_text.specs.Lines.{lines_of}
use Rattle.reply_text.specs.Steps.{event_lines}
use Rattle.reply_text.specs.Books.{Refuses, GivesBook}
use Rattle.reply_text.proofs.Reading.{TookEvents, took_nothing, took_event, fewer_lines}
use Rattle.reply_text.proofs.Refusals.{exit_at, exit_no_book, refuses_at, book_done, books_are_one}
use Rattle.reply_text.proofs.book.read_book.Goals as goal

pub loop-book-init : goal.loop-book-init
loop-book-init c = took_nothing c.args.bytes.now c.new-book.result (left c.new-lines.result) c.new-lines.result.number c.new-book.ensures c.new-lines.ensures.lines c.new-lines.ensures.number

pub returns-in_err-event-clause-only : goal.returns-in_err-event-clause-only
returns-in_err-event-clause-only c =
    let p = err_from_is_err_and c.from_residual.result c.from_residual.ensures.1 in
    exit_no_book c.args.bytes.now _ _ _ p.1 p.2
    (refuses_at _ c.args.bytes.now c.loop-book.book (left c.loop-book.lines) c.loop-book.lines.number c.loop-book.invariant c.in_err-event.ensures.refused)

pub returns-in_err-event-clause-refused : goal.returns-in_err-event-clause-refused
returns-in_err-event-clause-refused c =
    let p = err_from_is_err_and c.from_residual.result c.from_residual.ensures.1 in
    exit_at (Refuses c.args.bytes.now) _ _ _ p.1 p.2
    (refuses_at _ c.args.bytes.now c.loop-book.book (left c.loop-book.lines) c.loop-book.lines.number c.loop-book.invariant c.in_err-event.ensures.refused)

pub loop-book-smaller : goal.loop-book-smaller
loop-book-smaller c = fewer_lines (left c.loop-book.lines) (left c.next_event.new.lines) c.in-Some.event (rw c.in-Some.is at c.in_ok-event.ensures.event)

pub loop-book-preserved : goal.loop-book-preserved
loop-book-preserved c =
    took_event (lines_of c.args.bytes.now) c.loop-book.book c.push.new.self (left c.loop-book.lines) (left c.next_event.new.lines) c.in-Some.event c.loop-book.lines.number c.next_event.new.lines.number
    c.loop-book.invariant (rw c.in-Some.is at c.in_ok-event.ensures.event) (rw c.in-Some.is at c.in_ok-event.ensures.number) c.in_ok-push.ensures.ok

pub returns-clause-book : goal.returns-clause-book
returns-clause-book c = book_done c.args.bytes.now c.loop-book.book (left c.loop-book.lines) c.loop-book.lines.number c.loop-book.invariant (rw c.in_default.is at c.in_ok-event.ensures.event)

pub returns-clause-only : goal.returns-clause-only
returns-clause-only c = λ book h. books_are_one c.args.bytes.now c.loop-book.book book (book_done c.args.bytes.now c.loop-book.book (left c.loop-book.lines) c.loop-book.lines.number c.loop-book.invariant (rw c.in_default.is at c.in_ok-event.ensures.event)) h
