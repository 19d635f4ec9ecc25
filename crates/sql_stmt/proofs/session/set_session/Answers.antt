use Rattle.std.specs.Prelude.{is_some}
use Rattle.std.proofs.Common.{Bool, ◌∙◌, sym, ap}
use Rattle.sql_form.specs.Form.{if_so, Left, Right}
use Rattle.sql_form.proofs.Complete.{chosen_left, chosen_right, joined_done, made_done}
use Rattle.sql_stmt.proofs.session.set_session.Goals as goal

pub returns-then-is_word : goal.returns-then-is_word
returns-then-is_word c = record {
  value = (c.in_ok-key.ensures.value, Left c.in_ok-stmt.ensures.value);
  is = joined_done _ _ _ _ _ _ _ c.in_ok-key.ensures.is (chosen_left _ _ _ _ (ap (λ (b : Bool). is_some (if_so b)) (sym c.is_word.ensures ∙ c.if-is_word.true)) (made_done Left _ _ _ c.in_ok-stmt.ensures.is));
  means = c.in_ok-stmt.ensures.means;
}

pub returns : goal.returns
returns c = record {
  value = (c.in_ok-key.ensures.value, Right c.in_ok-stmt-2.ensures.value);
  is = joined_done _ _ _ _ _ _ _ c.in_ok-key.ensures.is (chosen_right _ _ _ _ (ap (λ (b : Bool). is_some (if_so b)) (sym c.is_word.ensures ∙ c.if-is_word.false)) (made_done Right _ _ _ c.in_ok-stmt-2.ensures.is));
  means = c.in_ok-stmt-2.ensures.means;
}
