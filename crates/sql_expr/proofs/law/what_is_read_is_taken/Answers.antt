use Rattle.sql_expr.proofs.Answering.{is_taken}
use Rattle.sql_expr.proofs.law.what_is_read_is_taken.Goals as goal

pub returns : goal.returns
returns c = is_taken
