use Rattle.std.proofs.Common.{◌∙◌, ap, sym}
use Rattle.std.specs.FinMap as finite
use Rattle.page_base.proofs.Ordered.{key_cmp_total}
use Rattle.page_base.proofs.MapLemmas.{get-lookup}
use Rattle.table_pages.specs.Drafting.{Index}
use Rattle.table_pages.proofs.key_index.KeyIndex.slot.Goals as goal

pub returns : goal.returns
returns c =
    c.copied.ensures ∙ c.get.ensures.value ∙ sym (get-lookup key_cmp_total c.self.inside.slots.entries c.args.key.now) ∙ ap (λ (m : Index). finite.get m c.args.key.now) c.self.view_is
