use Rattle.sql_stmt.proofs.CountLemmas.{few_written}
use Rattle.sql_stmt.proofs.table.table_parts.Goals as goal

pub returns-clause-few : goal.returns-clause-few
returns-clause-few c = few_written c.list.result c.args.tokens.now c.list.new.tokens c.list.ensures
