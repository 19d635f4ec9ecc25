-- One more new row is taken.
use Rattle.std.proofs.Common.{map, subst, sym, ap, ◌∙◌, List, ◌+◌, ◌<◌, length, get_or, arith}
use Rattle.page_base.specs.declared.value.Value.{Value}
use Rattle.plain_model.specs.declared.expr.Expr.{Expr}
use Rattle.plain_model.specs.Inserting.{new_row}
use Rattle.plain_model.specs.Tables.{key_of}
use Rattle.stmt_eval.proofs.InsertingLemmas.{IsInserted, added, inserted_more}
use Rattle.stmt_eval.proofs.inserting.inserted.Goals as goal

pub loop-i-preserved : goal.loop-i-preserved
loop-i-preserved c =
    let cols = c.args.cols.now in
    let e = c.as_slice-exprs-items.ensures in
    let within : c.loop-i.i < length c.args.lists.now = omega (arith, ap length e) in
    let start = map (key_of c.args.cols.now) c.args.rows.now in
    subst (λ (news : List (List Value)). IsInserted cols start (new_row c.args.names.now cols) c.args.lists.now (c.loop-i.i + 1) news c.next_row.new.keys) (sym c.in_ok-push-in-Ok.ensures.ok)
    (inserted_more cols start (new_row c.args.names.now cols) c.args.lists.now c.loop-i.i c.exprs-item.result c.loop-i.news c.in-Ok.row c.loop-i.keys c.next_row.new.keys
    within (c.exprs-item.is ∙ ap (λ (lists : List (List Expr)). get_or lists c.loop-i.i c.exprs-item.result) e) c.loop-i.invariant (c.in-Ok.ensures (added cols c.loop-i.news start) c.loop-i.invariant.keys))
