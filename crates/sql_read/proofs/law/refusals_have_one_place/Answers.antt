use Rattle.sql_read.proofs.BatchLemmas.{one_place}
use Rattle.sql_read.proofs.law.refusals_have_one_place.Goals as goal

pub returns : goal.returns
returns c = one_place
