use Rattle.sql_expr.proofs.Batches.{batch_printed, batch_ends}
use Rattle.sql_expr.proofs.law.batches_can_be_read.Goals as goal

pub returns : goal.returns
returns c = λ batch ts h. (batch_printed 0 batch ts h, batch_ends 0 batch ts h)
