use Rattle.sql_form.proofs.WholeLemmas.{one_value}
use Rattle.sql_form.proofs.law.tokens_of_a_form_say_one_thing.Goals as goal

pub returns : goal.returns
returns c = one_value
