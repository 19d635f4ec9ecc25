use Rattle.std.proofs.Common.{◌≡◌, length, set, ap, ◌∙◌}
use Rattle.std.specs.Prelude.{Some}
use Rattle.mem_dev.proofs.StoreLemmas.{set_again, store-set, images-set}
use Rattle.mem_dev.proofs.page_store.PageStore.overwrite.Goals as goal

pub invariant_of-self : goal.invariant_of-self
invariant_of-self c =
    let long : length c.set_bytes.new.self ≡ 8192 = ap length (c.set_bytes.ensures ∙ c.bytes.ensures.value) ∙ c.bytes.ensures.len in
    rw (set_again c.self.inside.pages.items c.args.n c.take.new.self (Some c.set_bytes.new.self)) (store-set c.self.inside.pages.items c.args.n c.set_bytes.new.self long c.self.invariant)

pub returns-clause-new : goal.returns-clause-new
returns-clause-new c =
    set_again c.self.inside.pages.items c.args.n c.take.new.self (Some c.set_bytes.new.self)
    ∙ (λ i. set (c.self.view_is i) c.args.n (Some ((c.set_bytes.ensures ∙ c.bytes.ensures.value) i)))

pub returns-clause-after : goal.returns-clause-after
returns-clause-after c =
    let long : length c.set_bytes.new.self ≡ 8192 = ap length (c.set_bytes.ensures ∙ c.bytes.ensures.value) ∙ c.bytes.ensures.len in
    rw (set_again c.self.inside.pages.items c.args.n c.take.new.self (Some c.set_bytes.new.self)) (images-set c.self.inside.pages.items c.args.n c.set_bytes.new.self long c.self.invariant.images)
