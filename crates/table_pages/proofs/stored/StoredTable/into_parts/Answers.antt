use Rattle.std.proofs.Common.{◌∙◌, sym, ap, append-nil, List, ◌++◌}
use Rattle.page_base.specs.declared.value.Value.{Value}
use Rattle.table_pages.proofs.StoredLemmas.{stored-table}
use Rattle.table_pages.proofs.stored.StoredTable.into_parts.Goals as goal

pub returns : goal.returns
returns c = stored-table c.self.inside.cols c.self.inside.rows.entries c.args.self c.loop-row.list c.self.view_is c.self.invariant c.len-count.ensures.ordered
    (sym (append-nil c.loop-row.list) ∙ ap (λ (rows : List (List Value)). c.loop-row.list ++ rows) (sym c.in-None.ensures.steps.0) ∙ sym c.loop-row.invariant ∙ c.into_iter-row-iterator.ensures.into_iter_gives ∙ c.into_values-row-items.ensures.rest)
