use Rattle.std.proofs.Common.{length, ap, arith}
use Rattle.sql_lex.proofs.Counting.{tokens_few}
use Rattle.sql_lex.proofs.place.token_count.Goals as goal

pub overflow_add-count : goal.overflow_add-count
overflow_add-count c = omega (arith, c.loop-at.invariant.counted, tokens_few c.args.batch.now c.args.from)

pub returns-in-End-clause-few : goal.returns-in-End-clause-few
returns-in-End-clause-few c = omega (arith, c.loop-at.invariant.counted, tokens_few c.args.batch.now c.args.from, ap length c.token_from-token.ensures.tokens, c.requires.short)
