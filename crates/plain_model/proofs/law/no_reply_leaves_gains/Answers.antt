use Rattle.std.proofs.Common.{ap}
use Rattle.plain_model.specs.State.{Session}
use Rattle.plain_model.proofs.ReplyLemmas.{put_there}
use Rattle.plain_model.proofs.law.no_reply_leaves_gains.Goals as goal

pub returns : goal.returns
returns c = λ st k n there. ap (λ (s : Session). s.gained) (put_there st k _ there)
