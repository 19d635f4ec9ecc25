use Rattle.table_walk.proofs.FillLemmas.{filled_in}
use Rattle.table_walk.proofs.law.a_row_may_be_filled_in.Goals as goal

pub returns : goal.returns
returns c = filled_in
