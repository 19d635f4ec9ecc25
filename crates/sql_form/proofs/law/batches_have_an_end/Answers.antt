use Rattle.sql_form.proofs.Batches.{batch_ends}
use Rattle.sql_form.proofs.law.batches_have_an_end.Goals as goal

pub returns : goal.returns
returns c = λ batch ts h. batch_ends 0 batch ts h
