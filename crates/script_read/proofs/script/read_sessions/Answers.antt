use Rattle.std.proofs.lemmas.Result.{err_from_is_err_and}
use Rattle.script_read.specs.Faults.{InFront}
use Rattle.script_read.specs.Left.{left}
use Rattle.script_read.specs.Steps.{RefusesLater}
use Rattle.script_read.proofs.Sessions.{refused_exit}
use Rattle.script_read.proofs.Whole.{heading_none, heading_room, heading_more, heading_refuses, session_refuses}
use Rattle.script_read.proofs.script.read_sessions.Goals as goal

pub loop-scripts-init : goal.loop-scripts-init
loop-scripts-init c = rw c.new-scripts.ensures (heading_none _ _ c.requires)

pub returns-in_err-begin_session-clause-refused : goal.returns-in_err-begin_session-clause-refused
returns-in_err-begin_session-clause-refused c =
    let p = err_from_is_err_and c.from_residual.result c.from_residual.ensures.1 in
    refused_exit (RefusesLater InFront 0 c.args.reader.now.line (left c.args.reader.now)) _ _ _ p.1 p.2
    (heading_refuses _ _ _ _ _ _ _ _ c.loop-scripts.invariant c.len.ensures c.in_err-begin_session.ensures.refused)

pub returns-in_err-stmts-clause-refused : goal.returns-in_err-stmts-clause-refused
returns-in_err-stmts-clause-refused c =
    let p = err_from_is_err_and c.from_residual-in_err-stmts.result c.from_residual-in_err-stmts.ensures.1 in
    refused_exit (RefusesLater InFront 0 c.args.reader.now.line (left c.args.reader.now)) _ _ _ p.1 p.2
    (session_refuses _ _ _ _ _ _ _ _ _ _ _ c.loop-scripts.invariant c.if-branch.true c.len.ensures c.in_ok-begin_session.ensures.ok c.in_err-stmts.ensures.refused)

pub push-requires-clause-fewer : goal.push-requires-clause-fewer
push-requires-clause-fewer c = heading_room c.loop-scripts.scripts _ _ _ _ _ _ c.if-branch.true c.len.ensures c.in_ok-begin_session.ensures.ok

pub loop-scripts-preserved : goal.loop-scripts-preserved
loop-scripts-preserved c =
    rw c.in_ok-push.ensures.ok (heading_more c.loop-scripts.scripts c.in_ok-stmts.stmts _ _ _ _ _ _ _ _ _ _ _ _ c.loop-scripts.invariant c.if-branch.true c.len.ensures c.in_ok-begin_session.ensures.ok c.in_ok-stmts.ensures.ok c.len-said.ensures)
