use Rattle.std.proofs.Common.{◌∙◌, sym, ap, refl}
use Rattle.sql_expr.specs.Got.{Done}
use Rattle.sql_form.specs.Form.{Left, Right}
use Rattle.sql_lex.specs.Ahead.{behind_first}
use Rattle.sql_stmt.proofs.session.transaction.Goals as goal

pub returns-then-is_key : goal.returns-then-is_key
returns-then-is_key c = record {
  value = Left tt;
  is = rw (sym c.is_key.ensures ∙ c.if-is_key.true) (ap (λ us. Done (Left tt) us) (ap behind_first c.advance.ensures));
  means = tt;
}

pub returns : goal.returns
returns c = record {
  value = Right c.in_ok-key.ensures.value;
  is = rw (sym c.is_key.ensures ∙ c.if-is_key.false, c.in_ok-key.ensures.is) refl;
  means = tt;
}
