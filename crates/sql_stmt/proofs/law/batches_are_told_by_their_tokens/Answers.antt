use Rattle.sql_stmt.proofs.Batches.{told}
use Rattle.sql_stmt.proofs.law.batches_are_told_by_their_tokens.Goals as goal

pub returns : goal.returns
returns c = told
