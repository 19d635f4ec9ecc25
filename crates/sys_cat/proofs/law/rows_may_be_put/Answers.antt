use Rattle.sys_cat.proofs.PutLemmas.{rows_put, good}
use Rattle.sys_cat.proofs.law.rows_may_be_put.Goals as goal

pub returns : goal.returns
returns c = λ d desc. rows_put d desc.head desc.named (good d.cols desc.sound)
