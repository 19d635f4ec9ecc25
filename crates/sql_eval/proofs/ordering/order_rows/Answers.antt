-- A stable sort leaves the rows in their one order.
use Rattle.std.proofs.Common.{rules, ◌∙◌, ap}
use Rattle.std.proofs.lemmas.Fn.{always_returns_same}
use Rattle.plain_model.specs.Sorting.{is_before, sorted_by}
use Rattle.sql_eval.proofs.SortLemmas.{sorted_once}
use Rattle.sql_eval.proofs.RowOrder.{is_before_ranks}
use Rattle.sql_eval.proofs.ordering.order_rows.Goals as goal

pub returns : goal.returns
returns c =
    let cols = c.args.cols.now in
    let by = c.args.by.now in
    c.from.ensures
    ∙ sorted_once (is_before cols by) (is_before_ranks cols by) c.into_vec-sorted.result.items c.sort_by.new.self.items
    (c.in_ok-sort_by.ensures.sorted (is_before cols by) (is_before_ranks cols by) (always_returns_same _ _ _ (λ a r f k. search rules)))
    (c.in_ok-sort_by.ensures.stable (is_before cols by) (is_before_ranks cols by) (always_returns_same _ _ _ (λ a r f k. search rules)))
    ∙ ap (sorted_by (is_before cols by)) c.into_vec-sorted.ensures
