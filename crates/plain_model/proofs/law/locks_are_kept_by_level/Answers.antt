use Rattle.std.proofs.Common.{refl}
use Rattle.plain_model.proofs.LockLemmas.{keeps_exclusive, keeps_all}
use Rattle.plain_model.proofs.law.locks_are_kept_by_level.Goals as goal

pub returns-clause-serial : goal.returns-clause-serial
returns-clause-serial c = λ gained locks. refl

pub returns-clause-exclusive : goal.returns-clause-exclusive
returns-clause-exclusive c = keeps_exclusive

pub returns-clause-all : goal.returns-clause-all
returns-clause-all c = keeps_all
