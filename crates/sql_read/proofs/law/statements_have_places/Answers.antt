use Rattle.sql_read.proofs.EachLemmas.{each_place}
use Rattle.sql_read.proofs.law.statements_have_places.Goals as goal

pub returns : goal.returns
returns c = each_place
