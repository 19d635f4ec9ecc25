use Rattle.table_def.proofs.Good.{columns_are_good}
use Rattle.table_def.proofs.law.defined_columns_are_good.Goals as goal

pub returns : goal.returns
returns c = columns_are_good
