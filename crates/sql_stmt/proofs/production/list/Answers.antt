use Rattle.std.proofs.Common.{◌∙◌, sym, ap}
use Rattle.sql_form.proofs.PlainLemmas.{plain_is}
use Rattle.sql_lex.specs.Ahead.{behind_first}
use Rattle.sql_stmt.proofs.ListLemmas.{listed_start, listed_on, listed_end, listed_less}
use Rattle.sql_stmt.proofs.production.list.Goals as goal

pub parts-init : goal.parts-init
parts-init g c = rw c.new-parts.ensures (listed_start _ _ _ _ _)

pub parts-preserved : goal.parts-preserved
parts-preserved g c =
    let h = rw c.is_counted-counted.ensures at c.in_ok-part.ensures in
    let e = listed_on _ _ _ (plain_is _ g.met.P.Production.plain) g.met.P.Production.solid _ _ _ _ _ _ c.parts.invariant h (sym c.is_mark.ensures ∙ c.if-not-is_mark.false) in
    rw (c.in_ok-push.ensures.ok, c.spared-spare.ensures, c.is_counted-counted.ensures, sym (ap behind_first c.advance.ensures)) e

pub returns-then-not-is_mark : goal.returns-then-not-is_mark
returns-then-not-is_mark g c =
    let h = rw c.is_counted-counted.ensures at c.in_ok-part.ensures in
    let e = listed_end _ _ _ (plain_is _ g.met.P.Production.plain) g.met.P.Production.solid _ _ _ _ _ _ c.parts.invariant h (sym c.is_mark.ensures ∙ c.if-not-is_mark.true) in
    rw c.in_ok-push.ensures.ok e

pub parts-smaller : goal.parts-smaller
parts-smaller g c =
    let h = rw c.is_counted-counted.ensures at c.in_ok-part.ensures in
    listed_less _ _ _ (plain_is _ g.met.P.Production.plain) _ _ _ _ _ h c.advance.ensures
