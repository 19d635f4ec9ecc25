use Rattle.plain_steps.proofs.OrderlyLemmas.{orderly_end}
use Rattle.plain_steps.proofs.locks.legal_states_are_orderly.Goals as goal

pub returns : goal.returns
returns c = orderly_end
