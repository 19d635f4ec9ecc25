use Rattle.std.proofs.Common.{◌∙◌, ap, sym, List, append-nil, ◌++◌, map}
use Rattle.std.specs.FinMap as finite
use Rattle.plain_model.specs.Tables.{Rows}
use Rattle.page_base.specs.declared.value.Value.{Value}
use Rattle.page_base.proofs.Ordered.{key_cmp_total}
use Rattle.page_base.proofs.MapLemmas.{entries-from_entries}
use Rattle.table_walk.proofs.row_map.RowMap.into_list.Goals as goal

pub returns : goal.returns
returns c =
    let gives = c.into_iter-row-iterator.ensures.into_iter_gives in
    sym (append-nil c.loop-row.list) ∙ ap (λ (es : List (List Value × List Value)). c.loop-row.list ++ map (λ e. e.1) es) (sym c.in-None.ensures.steps.0) ∙ sym c.loop-row.invariant
    ∙ ap (map (λ e. e.1)) (gives.0 ∙ sym (entries-from_entries key_cmp_total c.self.inside.rows.entries gives.5)) ∙ ap (λ (m : Rows). finite.values m) c.self.view_is
