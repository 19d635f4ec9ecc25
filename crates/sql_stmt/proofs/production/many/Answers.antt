use Rattle.std.proofs.Common.{◌∙◌, sym}
use Rattle.std.proofs.lemmas.Result.{err_from_is_err_and}
use Rattle.sql_stmt.proofs.ListLemmas.{several_on, several_refused, several_less}
use Rattle.sql_stmt.proofs.production.many.Goals as goal

pub returns-in_err-item : goal.returns-in_err-item
returns-in_err-item g c =
    let p = err_from_is_err_and c.from_residual.result c.from_residual.ensures.1 in
    rw (p.1, p.2) (several_refused _ _ c.requires _ _ _ _ c.items.invariant (sym c.is_ahead.ensures ∙ c.items-test.true) c.in_err-item.ensures)

pub items-preserved : goal.items-preserved
items-preserved g c = rw c.in_ok-push.ensures.ok (several_on _ _ c.requires _ _ _ _ _ c.items.invariant (sym c.is_ahead.ensures ∙ c.items-test.true) c.in_ok-item.ensures)

pub items-smaller : goal.items-smaller
items-smaller g c = several_less _ _ g.met.P.Production.plain g.met.P.Production.solid _ _ _ c.in_ok-item.ensures
