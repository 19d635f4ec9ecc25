-- A stable sort leaves the rows in their one order.
use Rattle.std.proofs.Common.{rules, ◌∙◌, ap, Bool, List}
use Rattle.std.proofs.lemmas.Fn.{always_returns_same}
use Rattle.std.proofs.lemmas.List.Sorted.{ranks_by}
use Rattle.std.specs.Cmp.{IsStrictWeakOrder}
use Rattle.page_base.specs.declared.value.Value.{Value}
use Rattle.plain_model.specs.Sorting.{is_before, sorted_by}
use Rattle.sql_eval.proofs.SortLemmas.{sorted_once}
use Rattle.sql_eval.proofs.RowOrder.{row_cmp_total}
use Rattle.stmt_eval.proofs.selecting.in_order.Goals as goal

pub returns : goal.returns
returns c =
    let less : List Value × List Value → List Value × List Value → Bool = λ a b. is_before c.args.cols.now c.args.order.now a.0 b.0 in
    let ranks : IsStrictWeakOrder less = ranks_by (row_cmp_total c.args.cols.now c.args.order.now) (λ (t : List Value × List Value). t.0) in
    sorted_once less ranks c.into_vec-sorted.result.items c.sort_by.new.self.items
    (c.in_ok-sort_by.ensures.sorted less ranks (always_returns_same _ _ _ (λ a r f k. search rules)))
    (c.in_ok-sort_by.ensures.stable less ranks (always_returns_same _ _ _ (λ a r f k. search rules)))
    ∙ ap (sorted_by less) c.into_vec-sorted.ensures
