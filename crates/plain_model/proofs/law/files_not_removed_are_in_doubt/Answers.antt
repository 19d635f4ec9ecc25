use Rattle.plain_model.specs.State.{files_of}
use Rattle.plain_model.proofs.ReplyLemmas.{among}
use Rattle.plain_model.proofs.law.files_not_removed_are_in_doubt.Goals as goal

pub returns : goal.returns
returns c = λ st d name h. among name (files_of st d) st.in_doubt h
