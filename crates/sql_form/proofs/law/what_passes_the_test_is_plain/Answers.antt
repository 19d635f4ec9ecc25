use Rattle.sql_form.proofs.PlainLemmas.{plain_is}
use Rattle.sql_form.proofs.law.what_passes_the_test_is_plain.Goals as goal

pub returns : goal.returns
returns c = plain_is
