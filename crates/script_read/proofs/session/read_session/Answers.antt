use Rattle.std.proofs.Common.{ℕ}
use Rattle.std.proofs.lemmas.Result.{err_from_is_err_and}
use Rattle.script_read.specs.Left.{left}
use Rattle.script_read.specs.Faults.{Within}
use Rattle.script_read.specs.Refusal.{Refuses}
use Rattle.script_read.proofs.Sessions.{reading_one, more_refused, more_read, refused_exit}
use Rattle.script_read.proofs.session.read_session.Goals as goal

pub loop-alloc-init : goal.loop-alloc-init
loop-alloc-init c = reading_one _ _ _ _ _ _ c.in_ok-stmts.ensures.ok

pub returns-in_err-more-clause-refused : goal.returns-in_err-more-clause-refused
returns-in_err-more-clause-refused c =
    let p = err_from_is_err_and c.from_residual-in_err-more.result c.from_residual-in_err-more.ensures.1 in
    refused_exit (λ e. (n : ℕ) → Refuses (Within n) c.args.said c.args.reader.now.line (left c.args.reader.now) e) _ _ _ p.1 p.2
    (λ n. more_refused n c.args.said c.len.result _ _ _ _ _ _ _ _ c.loop-alloc.invariant c.loop-alloc-test.ensures c.len.ensures (c.in_err-more.ensures.refused n))

pub loop-alloc-preserved : goal.loop-alloc-preserved
loop-alloc-preserved c = rw c.in_ok-append.ensures.ok (more_read c.args.said c.len.result _ _ _ _ _ _ _ _ _ _ c.loop-alloc.invariant c.loop-alloc-test.ensures c.len.ensures c.in_ok-more.ensures.ok)
