use Rattle.sql_expr.proofs.Only.{front_is_read}
use Rattle.sql_expr.proofs.law.the_longest_front_is_read.Goals as goal

pub returns : goal.returns
returns c = front_is_read
