use Rattle.sql_expr.proofs.Answering.{is_read}
use Rattle.sql_expr.proofs.law.what_is_in_the_grammar_is_read.Goals as goal

pub returns : goal.returns
returns c = is_read
