use Rattle.std.proofs.Common.{◌∙◌, ap}
use Rattle.std.specs.FinMap as finite
use Rattle.plain_model.specs.Tables.{Rows}
use Rattle.page_base.proofs.Ordered.{key_cmp_total}
use Rattle.page_base.proofs.MapLemmas.{from_entries-insert_entry}
use Rattle.table_walk.proofs.row_map.RowMap.put.Goals as goal

pub returns-clause-ok : goal.returns-clause-ok
returns-clause-ok c =
    from_entries-insert_entry key_cmp_total c.self.inside.rows.entries c.insert.new.self.entries c.args.key c.args.row c.insert.ensures.was_ordered c.insert.ensures.ordered c.in_ok-insert.ensures.entries
    ∙ ap (λ (rows : Rows). finite.insert rows c.args.key c.args.row) c.self.view_is
