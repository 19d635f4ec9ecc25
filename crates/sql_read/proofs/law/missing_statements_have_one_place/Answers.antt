use Rattle.sql_read.proofs.LackLemmas.{one_lack}
use Rattle.sql_read.proofs.law.missing_statements_have_one_place.Goals as goal

pub returns : goal.returns
returns c = one_lack
