use Rattle.sql_read.proofs.PlaceLemmas.{one_stmt_place}
use Rattle.sql_read.proofs.law.statements_have_one_place.Goals as goal

pub returns : goal.returns
returns c = one_stmt_place
