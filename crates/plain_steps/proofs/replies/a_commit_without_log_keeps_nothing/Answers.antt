use Rattle.std.proofs.Common.{refl, ap, ◌∙◌}
use Rattle.plain_model.specs.State.{Session, session}
use Rattle.plain_model.specs.Legal.{outside, with_session}
use Rattle.plain_model.specs.Keeping.{kept_locks}
use Rattle.plain_steps.proofs.ReplyLemmas.{put_there, still_there}
use Rattle.plain_steps.proofs.replies.a_commit_without_log_keeps_nothing.Goals as goal

pub returns-clause-work : goal.returns-clause-work
returns-clause-work c = λ st k count there. ap (λ (s : Session). s.work) (put_there st k (outside (session st k)) there)

pub returns-clause-locks : goal.returns-clause-locks
returns-clause-locks c = λ st k n count there.
    ap (λ (s : Session). s.locks) (put_there (with_session st k (outside (session st k))) k _ (still_there st k (outside (session st k)) there))
    ∙ ap kept_locks (put_there st k (outside (session st k)) there)

pub returns-clause-source : goal.returns-clause-source
returns-clause-source c = λ st k count. refl
