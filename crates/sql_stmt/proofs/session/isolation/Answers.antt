use Rattle.sql_form.proofs.Complete.{joined_done}
use Rattle.sql_stmt.proofs.session.isolation.Goals as goal

pub returns : goal.returns
returns c = record {
  value = (c.in_ok-key.ensures.value, (c.in_ok-word.ensures.value, (c.in_ok-word-2.ensures.value, c.in_ok-level.ensures.value)));
  is = joined_done _ _ _ _ _ _ _ c.in_ok-key.ensures.is (joined_done _ _ _ _ _ _ _ c.in_ok-word.ensures.is (joined_done _ _ _ _ _ _ _ c.in_ok-word-2.ensures.is c.in_ok-level.ensures.is));
  means = c.in_ok-level.ensures.means;
}
