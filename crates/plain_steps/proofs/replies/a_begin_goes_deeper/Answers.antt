use Rattle.std.proofs.Common.{ap}
use Rattle.plain_model.specs.State.{Session}
use Rattle.plain_steps.proofs.ReplyLemmas.{put_there}
use Rattle.plain_steps.proofs.replies.a_begin_goes_deeper.Goals as goal

pub returns : goal.returns
returns c = λ st k there. ap (λ (s : Session). s.depth) (put_there st k _ there)
