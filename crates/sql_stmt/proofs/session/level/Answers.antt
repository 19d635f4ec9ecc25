use Rattle.std.specs.Prelude.{is_some}
use Rattle.std.proofs.Common.{Bool, ◌∙◌, sym, ap, refl}
use Rattle.sql_form.specs.Form.{if_so, Left, Right}
use Rattle.sql_form.proofs.Complete.{chosen_left, chosen_right, made_done}
use Rattle.sql_stmt.proofs.session.level.Goals as goal

pub returns-then-is_word : goal.returns-then-is_word
returns-then-is_word c = record {
  value = Left c.in_ok-read_committed.ensures.value;
  is = chosen_left _ _ _ _ (ap (λ (b : Bool). is_some (if_so b)) (sym c.is_word.ensures ∙ c.if-is_word.true)) (made_done Left _ _ _ c.in_ok-read_committed.ensures.is);
  means = refl;
}

pub returns : goal.returns
returns c = record {
  value = Right c.in_ok-word.ensures.value;
  is = chosen_right _ _ _ _ (ap (λ (b : Bool). is_some (if_so b)) (sym c.is_word.ensures ∙ c.if-is_word.false)) (made_done Right _ _ _ c.in_ok-word.ensures.is);
  means = refl;
}
