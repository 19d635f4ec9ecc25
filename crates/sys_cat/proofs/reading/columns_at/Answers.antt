use Rattle.std.proofs.Common.{◌≡◌, ◌+◌, ◌++◌, ◌∷◌, [], ◌∙◌, sym, ap, subst, length, length-append, arith, true, false}
use Rattle.sys_cat.specs.Growing.{can_grow}
use Rattle.sys_cat.specs.Rows.{column_row}
use Rattle.sys_cat.specs.Reading.{AreLongest}
use Rattle.sys_cat.proofs.ReadLemmas.{few_columns, reads_more, longest_none, longest_bad, popped}
use Rattle.sys_cat.proofs.reading.columns_at.Goals as goal

pub returns-in_default : goal.returns-in_default
returns-in_default c =
    let ord : c.len.result + 1 ≡ length c.loop-row.cols.items + 1 = omega (arith, c.len.ensures, c.loop-row.cols.ok.0) in
    subst (AreLongest c.args.name.now c.args.rows.now) (sym c.from.ensures)
    (longest_none c.args.name.now c.args.rows.now c.loop-row.row-index c.loop-row.cols.items c.row-item.result (c.len.result + 1) c.loop-row.invariant c.loop-row-test.true c.row-item.is ord c.in_default.ensures)

pub can_grow-requires : goal.can_grow-requires
can_grow-requires c =
    let few = few_columns c.loop-row.cols.items c.loop-row.invariant.grow in
    let long : length c.as_slice.result.now ≡ length (c.loop-row.cols.items ++ c.in-Some.column ∷ []) = ap length (c.as_slice.ensures.value ∙ c.in_ok-push.ensures.items) in
    omega (arith, length-append c.loop-row.cols.items (c.in-Some.column ∷ []))

pub returns-then-not-can_grow : goal.returns-then-not-can_grow
returns-then-not-can_grow c =
    let same : c.as_slice.result.now ≡ c.loop-row.cols.items ++ c.in-Some.column ∷ [] = c.as_slice.ensures.value ∙ c.in_ok-push.ensures.items in
    let bad : can_grow (c.loop-row.cols.items ++ c.in-Some.column ∷ []) ≡ false = ap can_grow (sym same) ∙ sym c.can_grow.ensures ∙ c.if-not-can_grow.true in
    let ord : c.len.result + 1 ≡ length c.loop-row.cols.items + 1 = omega (arith, c.len.ensures, c.loop-row.cols.ok.0) in
    let back : c.pop.new.self.items ≡ c.loop-row.cols.items = popped c.loop-row.cols.items c.push.new.self.items c.pop.new.self.items c.in-Some.column _ c.in_ok-push.ensures.items c.pop.ensures.rest c.push.new.self.ok.0 in
    subst (AreLongest c.args.name.now c.args.rows.now) (sym (c.from-then-not-can_grow.ensures ∙ back))
    (longest_bad c.args.name.now c.args.rows.now c.loop-row.row-index c.loop-row.cols.items c.row-item.result c.in-Some.column c.loop-row.invariant c.loop-row-test.true c.row-item.is (c.in-Some.ensures.1 ∙ ap (λ n. column_row c.args.name.now n c.in-Some.column) ord) bad)

pub loop-row-preserved : goal.loop-row-preserved
loop-row-preserved c =
    let same : c.as_slice.result.now ≡ c.push.new.self.items = c.as_slice.ensures.value in
    let good : can_grow c.push.new.self.items ≡ true = ap can_grow (sym same) ∙ sym c.can_grow.ensures ∙ c.if-not-can_grow.false in
    let ord : c.len.result + 1 ≡ length c.loop-row.cols.items + 1 = omega (arith, c.len.ensures, c.loop-row.cols.ok.0) in
    reads_more c.args.name.now c.args.rows.now c.loop-row.row-index c.loop-row.cols.items c.push.new.self.items c.in-Some.column c.row-item.result c.loop-row.invariant c.loop-row-test.true c.row-item.is c.in-Some.ensures.0 (c.in-Some.ensures.1 ∙ ap (λ n. column_row c.args.name.now n c.in-Some.column) ord)
    c.in_ok-push.ensures.items good
