use Rattle.sql_stmt.proofs.Batches.{one_thing}
use Rattle.sql_stmt.proofs.law.batches_say_one_thing.Goals as goal

pub returns : goal.returns
returns c = one_thing
