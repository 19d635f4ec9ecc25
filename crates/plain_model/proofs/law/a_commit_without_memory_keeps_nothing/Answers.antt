use Rattle.std.proofs.Common.{refl, ap, sym, ◌∙◌, cond, List, [], ◌-◌, length, arith}
use Rattle.std.specs.Prelude.{◌==◌}
use Rattle.page_base.specs.declared.numbers.Mode.{Mode}
use Rattle.plain_model.specs.declared.event.LockName.{LockName}
use Rattle.plain_model.specs.State.{Session, session}
use Rattle.plain_model.specs.Effects.{outside, with_session}
use Rattle.plain_model.specs.Keeping.{kept_locks}
use Rattle.plain_model.proofs.ReplyLemmas.{put_there, still_there}
use Rattle.plain_model.proofs.law.a_commit_without_memory_keeps_nothing.Goals as goal

pub returns-clause-work : goal.returns-clause-work
returns-clause-work c = λ st k there. ap (λ (s : Session). s.work) (put_there st k (outside (session st k)) there)

pub returns-clause-locks : goal.returns-clause-locks
returns-clause-locks c = λ st k n there.
    ap (λ (s : Session). s.locks) (put_there (with_session st k (outside (session st k))) k _ (still_there st k (outside (session st k)) there))
    ∙ ap kept_locks (put_there st k (outside (session st k)) there)

pub returns-clause-source : goal.returns-clause-source
returns-clause-source c = λ st k. refl
