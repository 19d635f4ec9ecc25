-- The set holds the key too.
use Rattle.stmt_eval.proofs.KeysLemmas.{keys_more}
use Rattle.stmt_eval.proofs.inserting.add_key.Goals as goal

pub returns : goal.returns
returns c = λ others h. keys_more _ _ _ others c.in_ok-insert.ensures.updates h
