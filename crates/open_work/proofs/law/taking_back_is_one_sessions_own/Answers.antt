use Rattle.open_work.proofs.OpenLemmas.{back_settled, back_other, back_own, back_before}
use Rattle.open_work.proofs.law.taking_back_is_one_sessions_own.Goals as goal

pub returns-clause-settled : goal.returns-clause-settled
returns-clause-settled c = back_settled

pub returns-clause-others : goal.returns-clause-others
returns-clause-others c = back_other

pub returns-clause-own : goal.returns-clause-own
returns-clause-own c = back_own

pub returns-clause-before : goal.returns-clause-before
returns-clause-before c = back_before
