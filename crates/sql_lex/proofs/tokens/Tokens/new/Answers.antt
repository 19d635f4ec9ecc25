use Rattle.std.proofs.Common.{subst, sym}
use Rattle.sql_lex.specs.Tokens.{Lexes}
use Rattle.sql_lex.proofs.Cutting.{batch_lexes}
use Rattle.sql_lex.proofs.tokens.Tokens.new.Goals as goal

pub returns : goal.returns
returns c = subst (Lexes 0 c.args.batch.now) (sym c.token_from-first.ensures.tokens) (batch_lexes c.args.batch.now)
