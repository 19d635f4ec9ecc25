use Rattle.sql_form.proofs.Complete.{joined_done}
use Rattle.sql_stmt.proofs.session.rollback.Goals as goal

pub returns : goal.returns
returns c = record {
  value = (c.in_ok-key.ensures.value, c.in_ok-work.ensures.value);
  is = joined_done _ _ _ _ _ _ _ c.in_ok-key.ensures.is c.in_ok-work.ensures.is;
  means = tt;
}
