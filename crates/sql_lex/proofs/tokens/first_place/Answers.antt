use Rattle.std.proofs.Common.{List, ap, ◌∙◌}
use Rattle.sql_lex.specs.declared.token.Token.{Token}
use Rattle.sql_lex.specs.Cut.{tokens_from}
use Rattle.sql_lex.specs.Ahead.{first_of}
use Rattle.sql_lex.proofs.Cutting.{one_list, batch_lexes}
use Rattle.sql_lex.proofs.tokens.first_place.Goals as goal

pub returns : goal.returns
returns c = λ ts h. ap (λ (us : List Token). (first_of us).at) (c.token_from.ensures.tokens ∙ one_list c.args.batch.now (tokens_from c.args.batch.now 0) ts (batch_lexes c.args.batch.now) h)
