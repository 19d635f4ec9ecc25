use Rattle.sql_read.proofs.BareLemmas.{one_reading}
use Rattle.sql_read.proofs.law.batches_have_one_reading.Goals as goal

pub returns : goal.returns
returns c = one_reading
