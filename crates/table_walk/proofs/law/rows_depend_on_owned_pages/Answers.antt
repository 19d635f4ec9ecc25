use Rattle.table_walk.proofs.TableLemmas.{table_same}
use Rattle.table_walk.proofs.law.rows_depend_on_owned_pages.Goals as goal

pub returns : goal.returns
returns c = table_same
