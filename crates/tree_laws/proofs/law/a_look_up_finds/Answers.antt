use Rattle.tree_laws.proofs.FindLemmas.{row_on_path}
use Rattle.tree_laws.proofs.law.a_look_up_finds.Goals as goal

pub returns : goal.returns
returns c = λ cols at owns root rows key done t w. let r = row_on_path cols at owns root rows key done t w.walks in (r.found, r.gathers, r.same)
