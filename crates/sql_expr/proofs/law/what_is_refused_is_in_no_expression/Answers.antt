use Rattle.sql_expr.proofs.Answering.{is_refused}
use Rattle.sql_expr.proofs.law.what_is_refused_is_in_no_expression.Goals as goal

pub returns : goal.returns
returns c = is_refused
