use Rattle.sql_form.proofs.WholeLemmas.{whole_is, whole_read}
use Rattle.sql_form.proofs.law.what_is_read_whole_is_of_the_form.Goals as goal

pub returns-clause-sound : goal.returns-clause-sound
returns-clause-sound c = whole_is

pub returns-clause-complete : goal.returns-clause-complete
returns-clause-complete c = whole_read
