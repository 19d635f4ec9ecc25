use Rattle.sql_form.proofs.WholeLemmas.{whole_refused}
use Rattle.sql_form.proofs.law.what_is_refused_whole_is_of_no_form.Goals as goal

pub returns : goal.returns
returns c = whole_refused
