use Rattle.sql_expr.proofs.Answering.{in_grammar}
use Rattle.sql_expr.proofs.law.what_is_read_is_in_the_grammar.Goals as goal

pub returns : goal.returns
returns c = in_grammar
