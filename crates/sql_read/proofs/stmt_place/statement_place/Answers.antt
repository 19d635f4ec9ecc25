use Rattle.std.proofs.Common.{◌∙◌, sym, refl, arith}
use Rattle.std.proofs.lemmas.Result.{err_from_is_err_and}
use Rattle.sql_read.proofs.LackLemmas.{lacks_on, lacks_here}
use Rattle.sql_read.proofs.PlaceLemmas.{passed_none, passed_more}
use Rattle.sql_read.proofs.stmt_place.statement_place.Goals as goal

pub loop-init : goal.loop-init
loop-init c = passed_none c.args.batch.now _ c.new-tokens.ensures

pub loop-preserved : goal.loop-preserved
loop-preserved c = passed_more _ _ _ _ c.loop.invariant c.in_ok-passed.ensures.passes

pub returns-in_err-passed-clause-syntax : goal.returns-in_err-passed-clause-syntax
returns-in_err-passed-clause-syntax c =
    let p = err_from_is_err_and c.from_residual.result c.from_residual.ensures.1 in
    rw (p.1, p.2) (lacks_on c.args.batch.now _ c.loop.tokens c.loop.counter c.args.number _ c.new-tokens.ensures c.loop.invariant (omega arith) c.in_err-passed.ensures.stays)

pub returns-then-not-is_statement_ahead-clause-syntax : goal.returns-then-not-is_statement_ahead-clause-syntax
returns-then-not-is_statement_ahead-clause-syntax c =
    rw c.refused.ensures (lacks_here c.args.batch.now _ c.loop.tokens c.loop.counter c.args.number _ c.new-tokens.ensures c.loop.invariant (omega arith) (λ z. omega (arith, z)) (record {
      begins = sym c.is_statement_ahead.ensures ∙ c.if-not-is_statement_ahead.true;
      place = refl;
    }))
