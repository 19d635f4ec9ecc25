use Rattle.open_work.proofs.OpenLemmas.{settled_same, alone_other, alone_own, before_same}
use Rattle.open_work.proofs.law.a_change_is_one_sessions_own.Goals as goal

pub returns-clause-settled : goal.returns-clause-settled
returns-clause-settled c = settled_same

pub returns-clause-others : goal.returns-clause-others
returns-clause-others c = alone_other

pub returns-clause-own : goal.returns-clause-own
returns-clause-own c = alone_own

pub returns-clause-before : goal.returns-clause-before
returns-clause-before c = before_same
