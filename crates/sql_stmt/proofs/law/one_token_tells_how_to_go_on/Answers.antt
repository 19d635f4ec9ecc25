use Rattle.sql_stmt.proofs.Batches.{batch_plain}
use Rattle.sql_stmt.proofs.law.one_token_tells_how_to_go_on.Goals as goal

pub returns : goal.returns
returns c = batch_plain
