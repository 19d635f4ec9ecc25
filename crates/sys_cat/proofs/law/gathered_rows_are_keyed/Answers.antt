use Rattle.sys_cat.proofs.OrderLemmas.{gathered_keyed}
use Rattle.sys_cat.proofs.law.gathered_rows_are_keyed.Goals as goal

pub returns : goal.returns
returns c = gathered_keyed
