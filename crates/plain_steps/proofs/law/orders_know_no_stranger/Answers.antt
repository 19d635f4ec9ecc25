use Rattle.plain_model.proofs.OrderLemmas.{orders_known}
use Rattle.plain_steps.proofs.law.orders_know_no_stranger.Goals as goal

pub returns : goal.returns
returns c = orders_known
