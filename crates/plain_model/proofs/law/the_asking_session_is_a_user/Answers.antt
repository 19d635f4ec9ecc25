use Rattle.plain_model.proofs.ReplyLemmas.{own_user}
use Rattle.plain_model.proofs.law.the_asking_session_is_a_user.Goals as goal

pub returns : goal.returns
returns c = own_user
