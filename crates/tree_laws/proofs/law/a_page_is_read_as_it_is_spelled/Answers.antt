use Rattle.tree_laws.proofs.Looked.{page_seen}
use Rattle.tree_laws.proofs.law.a_page_is_read_as_it_is_spelled.Goals as goal

pub returns : goal.returns
returns c = λ cols looked sheets root owns rows p t look own small. page_seen cols looked sheets root owns rows p t look own small
