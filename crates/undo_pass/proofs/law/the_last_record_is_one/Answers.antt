-- Lists of one length have one last place.
use Rattle.undo_pass.proofs.LastLemmas.{front_same, last_same}
use Rattle.undo_pass.proofs.law.the_last_record_is_one.Goals as goal

pub returns : goal.returns
returns c = λ front other r q e. (front_same front other r q e, last_same front other r q e)
