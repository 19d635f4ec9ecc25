use Rattle.std.proofs.Common.{◌≡◌, length, set, ap, ◌∙◌}
use Rattle.std.specs.Prelude.{Some}
use Rattle.mem_dev.proofs.StoreLemmas.{set_again, store-set, images-set}
use Rattle.mem_dev.proofs.page_store.PageStore.write.Goals as goal

pub invariant_of-self-2 : goal.invariant_of-self-2
invariant_of-self-2 c =
    let long : length c.set_bytes.new.self ≡ 8192 = ap length (c.set_bytes.ensures ∙ c.bytes.ensures.value) ∙ c.bytes.ensures.len in
    rw (set_again c.self.inside.pages.items c.args.n c.take.new.self (Some c.set_bytes.new.self)) (store-set c.self.inside.pages.items c.args.n c.set_bytes.new.self long c.self.invariant)

pub returns-clause-ok : goal.returns-clause-ok
returns-clause-ok c =
    set_again c.self.inside.pages.items c.args.n c.take.new.self (Some c.set_bytes.new.self)
    ∙ (λ i. set (c.self.view_is i) c.args.n (Some ((c.set_bytes.ensures ∙ c.bytes.ensures.value) i)))

pub returns-clause-after : goal.returns-clause-after
returns-clause-after c =
    let long : length c.set_bytes.new.self ≡ 8192 = ap length (c.set_bytes.ensures ∙ c.bytes.ensures.value) ∙ c.bytes.ensures.len in
    rw (set_again c.self.inside.pages.items c.args.n c.take.new.self (Some c.set_bytes.new.self)) (images-set c.self.inside.pages.items c.args.n c.set_bytes.new.self long c.self.invariant.images)
