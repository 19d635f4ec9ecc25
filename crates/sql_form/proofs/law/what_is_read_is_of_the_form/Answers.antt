use Rattle.sql_form.proofs.FormLaws.{front_is}
use Rattle.sql_form.proofs.law.what_is_read_is_of_the_form.Goals as goal

pub returns : goal.returns
returns c = front_is
