use Rattle.sparse_set.proofs.GroupLemmas.{byte_tells}
use Rattle.sparse_set.proofs.words.is_full.Goals as goal

pub returns : goal.returns
returns c = byte_tells c.args.word c.args.place
