use Rattle.std.proofs.Common.{refl, ap}
use Rattle.plain_model.specs.State.{Session, session}
use Rattle.plain_model.specs.Effects.{outside}
use Rattle.plain_model.proofs.ReplyLemmas.{put_there}
use Rattle.plain_model.proofs.law.a_rollback_forgets_its_changes.Goals as goal

pub returns-clause-work : goal.returns-clause-work
returns-clause-work c = λ st k there. ap (λ (s : Session). s.work) (put_there st k (outside (session st k)) there)

pub returns-clause-depth : goal.returns-clause-depth
returns-clause-depth c = λ st k there. ap (λ (s : Session). s.depth) (put_there st k (outside (session st k)) there)

pub returns-clause-source : goal.returns-clause-source
returns-clause-source c = λ st k. refl
