use Rattle.std.proofs.Common.{◌∙◌, ap, sym}
use Rattle.std.specs.Option.{is_some}
use Rattle.std.specs.FinMap as finite
use Rattle.plain_model.specs.Tables.{Rows}
use Rattle.page_base.proofs.Ordered.{key_cmp_total}
use Rattle.page_base.proofs.MapLemmas.{get-lookup}
use Rattle.table_walk.proofs.row_map.RowMap.has_key.Goals as goal

pub returns : goal.returns
returns c = c.contains_key.ensures ∙ ap is_some (sym (get-lookup key_cmp_total c.self.inside.rows.entries c.args.key.now)) ∙ ap (λ (t : Rows). finite.contains_key t c.args.key.now) c.self.view_is
