use Rattle.table_def.proofs.Good.{none_where_bad}
use Rattle.table_def.proofs.law.no_columns_are_those_of_a_bad_definition.Goals as goal

pub returns : goal.returns
returns c = none_where_bad
