use Rattle.plain_steps.proofs.AloneLemmas.{are_alone, are_seen}
use Rattle.plain_steps.proofs.law.transactions_are_alone.Goals as goal

pub returns-clause-alone : goal.returns-clause-alone
returns-clause-alone c = are_alone

pub returns-clause-seen : goal.returns-clause-seen
returns-clause-seen c = are_seen
