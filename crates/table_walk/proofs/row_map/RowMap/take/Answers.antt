use Rattle.std.proofs.Common.{◌∙◌, ap, sym}
use Rattle.std.specs.FinMap as finite
use Rattle.plain_model.specs.Tables.{Rows}
use Rattle.page_base.proofs.Ordered.{key_cmp_total}
use Rattle.page_base.proofs.MapLemmas.{get-lookup, from_entries-removed}
use Rattle.table_walk.proofs.OrderLemmas.{keys_exact}
use Rattle.table_walk.proofs.row_map.RowMap.take.Goals as goal

pub returns-clause-row : goal.returns-clause-row
returns-clause-row c = c.remove.ensures.value ∙ sym (get-lookup key_cmp_total c.self.inside.rows.entries c.args.key.now) ∙ ap (λ (t : Rows). finite.get t c.args.key.now) c.self.view_is

pub returns-clause-new : goal.returns-clause-new
returns-clause-new c =
    from_entries-removed key_cmp_total keys_exact c.self.inside.rows.entries c.remove.new.self.entries c.args.key.now c.remove.ensures.updates.0 ∙ ap (λ (t : Rows). finite.remove t c.args.key.now) c.self.view_is
