use Rattle.std.proofs.Common.{◌∙◌, ap, sym}
use Rattle.std.specs.FinMap as finite
use Rattle.page_base.proofs.Ordered.{key_cmp_total}
use Rattle.page_base.proofs.MapLemmas.{get-lookup, from_entries-removed}
use Rattle.table_heap.specs.Places.{Index}
use Rattle.table_walk.proofs.OrderLemmas.{keys_exact}
use Rattle.table_heap.proofs.places.KeyPlaces.take.Goals as goal

pub returns-clause-place : goal.returns-clause-place
returns-clause-place c = c.remove.ensures.value ∙ sym (get-lookup key_cmp_total c.self.inside.places.entries c.args.key.now) ∙ ap (λ (m : Index). finite.get m c.args.key.now) c.self.view_is

pub returns-clause-new : goal.returns-clause-new
returns-clause-new c =
    from_entries-removed key_cmp_total keys_exact c.self.inside.places.entries c.remove.new.self.entries c.args.key.now c.remove.ensures.updates.0 ∙ ap (λ (m : Index). finite.remove m c.args.key.now) c.self.view_is
