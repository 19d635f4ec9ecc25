use Rattle.std.proofs.Common.{sym, ◌∙◌}
use Rattle.script_read.proofs.Batches.{taken_refused, taken_read}
use Rattle.script_read.proofs.session.read_batch.Goals as goal

pub returns-in-Some-clause-refused : goal.returns-in-Some-clause-refused
returns-in-Some-clause-refused c = λ n.
    taken_refused n _ _ _ c.in_ok-past.past c.args.said _ _ c.len.result _ _ c.in_ok-stmts.stmts c.in-Some.refusal
    c.batch-batch.ensures.takes c.batch-batch.ensures.whole c.requires c.in_ok-stmts.ensures.ok c.len.ensures c.in_ok-past.ensures.ok (sym c.refusal_by.ensures ∙ c.in-Some.is)

pub returns-in-None-clause-ok : goal.returns-in-None-clause-ok
returns-in-None-clause-ok c =
    taken_read _ _ _ c.in_ok-past.past c.args.said _ _ c.len.result _ _ c.in_ok-stmts.stmts
    c.batch-batch.ensures.takes c.in_ok-stmts.ensures.ok c.len.ensures c.in_ok-past.ensures.ok (sym c.refusal_by.ensures ∙ c.in-None.is)
