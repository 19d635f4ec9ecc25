use Rattle.std.proofs.Common.{arith, sym, ◌∙◌}
use Rattle.sql_lex.specs.Cut.{tokens_from}
use Rattle.sql_lex.proofs.Counting.{found_next}
use Rattle.sql_lex.proofs.place.token_place.Goals as goal

pub loop-preserved : goal.loop-preserved
loop-preserved c = record {
  within = c.token_from.ensures.within;
  found = found_next (tokens_from c.args.batch.now 0) (tokens_from c.args.batch.now c.token_from.result.1) c.token_from.result.0 c.loop.counter (c.loop.invariant.found ∙ sym c.token_from.ensures.tokens) (omega (arith, c.requires.there));
}
