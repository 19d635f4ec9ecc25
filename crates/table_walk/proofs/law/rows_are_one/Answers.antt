use Rattle.table_walk.proofs.TableLemmas.{table_one}
use Rattle.table_walk.proofs.law.rows_are_one.Goals as goal

pub returns : goal.returns
returns c = table_one
