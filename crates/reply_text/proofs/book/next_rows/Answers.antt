use Rattle.std.proofs.Common.{◌≡◌, ◌<◌, ◌≤◌, ◌-◌, length, map, refl, sym, ap, ◌∙◌, arith, ◌+◌, length-append}
use Rattle.std.proofs.lemmas.Result.{err_from_is_err_and}
use Rattle.reply_text.specs.Left.{left}
use Rattle.reply_text.specs.Steps.{LacksAt}
use Rattle.reply_text.proofs.Reading.{TookRows, took_none, took_row}
use Rattle.reply_text.proofs.Refusals.{exit_at, lacks_at}
use Rattle.reply_text.proofs.book.next_rows.Goals as goal

pub loop-alloc-init : goal.loop-alloc-init
loop-alloc-init c = took_none c.args.count (left c.args.lines.now) c.new-rows.result c.args.lines.now.number c.new-rows.ensures

pub returns-in_err-row-clause-refused : goal.returns-in_err-row-clause-refused
returns-in_err-row-clause-refused c =
    let p = err_from_is_err_and c.from_residual.result c.from_residual.ensures.1 in
    exit_at (LacksAt c.args.count (left c.args.lines.now) c.args.lines.now.number) _ _ _ p.1 p.2
    (lacks_at _ c.args.count (left c.args.lines.now) c.loop-alloc.rows (left c.loop-alloc.lines) c.args.lines.now.number c.loop-alloc.lines.number c.loop-alloc.invariant (omega (arith, c.loop-alloc-test.true, c.len.ensures)) c.in_err-row.ensures.refused)

pub loop-alloc-smaller : goal.loop-alloc-smaller
loop-alloc-smaller c =
    let long : length c.push.new.self ≡ length c.loop-alloc.rows + 1 = ap length c.in_ok-push.ensures.ok ∙ simp length-append (omega arith) in
    omega (arith, long, c.loop-alloc-test.true, c.len.ensures)

pub loop-alloc-preserved : goal.loop-alloc-preserved
loop-alloc-preserved c =
    took_row c.args.count (left c.args.lines.now) c.loop-alloc.rows c.push.new.self (left c.loop-alloc.lines) (left c.next_row.new.lines) c.in_ok-row.row c.args.lines.now.number c.loop-alloc.lines.number c.next_row.new.lines.number
    c.loop-alloc.invariant (omega (arith, c.loop-alloc-test.true, c.len.ensures)) c.in_ok-row.ensures.row c.in_ok-row.ensures.number c.in_ok-push.ensures.ok

pub returns-clause-rows : goal.returns-clause-rows
returns-clause-rows c = record { long = omega (arith, c.loop-alloc.invariant.few, c.loop-alloc-test.false, c.len.ensures); told = c.loop-alloc.invariant.told; split = c.loop-alloc.invariant.split }

pub returns-clause-number : goal.returns-clause-number
returns-clause-number c = c.loop-alloc.invariant.number
