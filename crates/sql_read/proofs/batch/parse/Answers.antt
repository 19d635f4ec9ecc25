use Rattle.std.proofs.Common.{◌∙◌, sym, ap}
use Rattle.std.proofs.lemmas.Result.{err_from_is_err_and}
use Rattle.sql_lex.specs.Ahead.{first_of}
use Rattle.sql_read.proofs.BatchLemmas.{stmt_refused, left_refused, batch_is_sound, batch_all}
use Rattle.sql_read.proofs.batch.parse.Goals as goal

pub returns-in_err-stmts-clause-syntax : goal.returns-in_err-stmts-clause-syntax
returns-in_err-stmts-clause-syntax c =
    let p = err_from_is_err_and c.from_residual.result c.from_residual.ensures.1 in
    rw (p.1, p.2) (stmt_refused c.args.batch.now _ _ c.new-tokens.ensures c.in_err-stmts.ensures)

pub returns-then-not-is_at_end-clause-syntax : goal.returns-then-not-is_at_end-clause-syntax
returns-then-not-is_at_end-clause-syntax c =
    rw (sym (ap (λ ts. (first_of ts).at) c.next.ensures)) (left_refused c.args.batch.now _ _ _ c.new-tokens.ensures c.in_ok-stmts.ensures (sym c.is_at_end.ensures.test ∙ c.if-not-is_at_end.true))

pub of-requires : goal.of-requires
of-requires c = batch_is_sound c.args.batch.now _ _ _ c.new-tokens.ensures c.in_ok-stmts.ensures (sym c.is_at_end.ensures.test ∙ c.if-not-is_at_end.false)

pub returns-clause-ok : goal.returns-clause-ok
returns-clause-ok c = rw c.of.ensures (batch_all c.args.batch.now _ _ _ c.new-tokens.ensures c.in_ok-stmts.ensures (sym c.is_at_end.ensures.test ∙ c.if-not-is_at_end.false))
