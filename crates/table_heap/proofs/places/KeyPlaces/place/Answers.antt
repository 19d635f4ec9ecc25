use Rattle.std.proofs.Common.{◌∙◌, ap, sym}
use Rattle.std.specs.FinMap as finite
use Rattle.page_base.proofs.Ordered.{key_cmp_total}
use Rattle.page_base.proofs.MapLemmas.{get-lookup}
use Rattle.table_heap.specs.Places.{Index}
use Rattle.table_heap.proofs.places.KeyPlaces.place.Goals as goal

pub returns : goal.returns
returns c =
    c.copied.ensures ∙ c.get.ensures.value ∙ sym (get-lookup key_cmp_total c.self.inside.places.entries c.args.key.now) ∙ ap (λ (m : Index). finite.get m c.args.key.now) c.self.view_is
