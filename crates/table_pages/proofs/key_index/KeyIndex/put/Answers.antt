use Rattle.std.proofs.Common.{◌∙◌, ap}
use Rattle.std.specs.FinMap as finite
use Rattle.page_base.proofs.Ordered.{key_cmp_total}
use Rattle.page_base.proofs.MapLemmas.{from_entries-insert_entry}
use Rattle.table_pages.specs.Drafting.{Index}
use Rattle.table_pages.proofs.key_index.KeyIndex.put.Goals as goal

pub returns-clause-ok : goal.returns-clause-ok
returns-clause-ok c =
    from_entries-insert_entry key_cmp_total c.self.inside.slots.entries c.insert.new.self.entries c.args.key c.args.slot c.insert.ensures.was_ordered c.insert.ensures.ordered c.in_ok-insert.ensures.entries
    ∙ ap (λ (m : Index). finite.insert m c.args.key c.args.slot) c.self.view_is
