use Rattle.std.proofs.Common.{◌≡◌, ◌<◌, ◌∙◌, length, get_or, arith, ap, subst, List}
use Rattle.std.proofs.lemmas.List.{length-take-le}
use Rattle.page_base.specs.declared.column.Column.{Column}
use Rattle.sys_cat.specs.Rows.{table_row}
use Rattle.sys_cat.proofs.LineLemmas.{rows_more}
use Rattle.sys_cat.proofs.spelling.rows_of.Goals as goal

pub loop-i-preserved : goal.loop-i-preserved
loop-i-preserved c =
    let same : c.as_slice-column-items.result.now ≡ c.args.desc.now.cols = c.as_slice-column-items.ensures in
    let lt : c.loop-i.i < length c.args.desc.now.cols = subst (λ (cs : List Column). c.loop-i.i < length cs) same c.loop-i-test.true in
    rows_more c.args.desc.now.name c.args.desc.now.cols c.loop-i.i c.column-item.result (table_row c.args.desc.now) c.loop-i.rows c.push-in-loop-i.new.self c.in_ok-column_row.field-0 lt (c.column-item.is ∙ ap (λ (cs : List Column). get_or cs c.loop-i.i c.column-item.result) same) c.loop-i.invariant c.in_ok-column_row.ensures c.in_ok-push-2.ensures.ok (length-take-le c.loop-i.i c.args.desc.now.cols (omega arith))
