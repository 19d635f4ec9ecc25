use Rattle.sql_form.proofs.FormLaws.{refused_is}
use Rattle.sql_form.proofs.law.what_is_refused_is_of_no_form.Goals as goal

pub returns : goal.returns
returns c = refused_is
