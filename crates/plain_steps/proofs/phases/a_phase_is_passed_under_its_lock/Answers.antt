use Rattle.plain_steps.proofs.PhaseLemmas.{lacks, has}
use Rattle.plain_steps.proofs.phases.a_phase_is_passed_under_its_lock.Goals as goal

pub returns-clause-lacks : goal.returns-clause-lacks
returns-clause-lacks c = lacks

pub returns-clause-has : goal.returns-clause-has
returns-clause-has c = has
