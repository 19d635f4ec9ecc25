use Rattle.sql_form.proofs.Complete.{complete}
use Rattle.sql_form.proofs.law.what_is_of_a_form_is_read.Goals as goal

pub returns : goal.returns
returns c = λ r f p x front rest next h k. complete r f p x front h next rest k
