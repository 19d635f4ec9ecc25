use Rattle.std.proofs.Common.{ap}
use Rattle.plain_model.specs.State.{Session}
use Rattle.plain_model.proofs.ReplyLemmas.{put_there}
use Rattle.plain_model.proofs.law.a_level_is_the_one_that_was_set.Goals as goal

pub returns : goal.returns
returns c = λ st k level there. ap (λ (s : Session). s.level) (put_there st k _ there)
