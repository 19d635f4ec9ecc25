use Rattle.sql_lex.proofs.Cutting.{one_cutting}
use Rattle.sql_lex.proofs.law.bytes_have_one_cutting.Goals as goal

pub returns : goal.returns
returns c = one_cutting
