-- A frame is taken out.
use Rattle.std.proofs.Common.{◌≡◌, ◌+◌, IsTrue, length, is_some, sym, ap, ◌∙◌, subst}
use Rattle.std.specs.Map.{keys_of}
use Rattle.page_base.specs.Pages.{image_at}
use Rattle.buf_pool.specs.Pool.{Pooled, IsSound, IsPooled, img, pins, is_dirty, frame_of}
use Rattle.buf_pool.specs.Order.{order, without}
use Rattle.buf_pool.specs.Steps.{Stays}
use Rattle.buf_pool.proofs.EvictedLemmas.{evicted, stays-evicted, sound-evicted}
use Rattle.buf_pool.proofs.OrderLemmas.{length-remove_entry, keys-removed}
use Rattle.buf_pool.proofs.pool.Pool.evict.Goals as goal

pub invariant_of-self : goal.invariant_of-self
invariant_of-self g c =
    let v : Pooled = record { files = c.self.inside.files; entries = c.self.inside.frames.entries; frames = c.self.inside.frames.cap } in
    subst (λ f. IsSound (record { files = v.files; entries = f.entries; frames = f.cap })) (sym c.pop.ensures.entries) (sound-evicted v c.args.p c.len-count.ensures.valid.0 c.self.invariant)

pub returns-clause-stays : goal.returns-clause-stays
returns-clause-stays g c =
    let v : Pooled = record { files = c.self.inside.files; entries = c.self.inside.frames.entries; frames = c.self.inside.frames.cap } in
    let e : v ≡ c.args.self.now = c.self.view_is in
    let there : IsPooled v c.args.p = ap (λ (x : Pooled). is_some (frame_of x c.args.p)) e ∙ c.requires.pooled in
    let clean : IsTrue v.files.tells → img v c.args.p ≡ image_at v.files.content c.args.p = λ told. c.self.invariant.clean told c.args.p (ap (λ x. is_dirty x c.args.p) e ∙ c.requires.clean) in
    subst (λ f. Stays c.args.self.now (record { files = v.files; entries = f.entries; frames = f.cap })) (sym c.pop.ensures.entries)
    (subst (λ (x : Pooled). Stays x (evicted v c.args.p c.len-count.ensures.valid.0)) e
    (stays-evicted v c.args.p c.len-count.ensures.valid.0 there clean (ap (λ x. pins x c.args.p) e ∙ c.requires.unpinned)))

pub returns-clause-order : goal.returns-clause-order
returns-clause-order g c = ap (λ f. keys_of f.entries) c.pop.ensures.entries ∙ keys-removed c.args.p c.self.inside.frames.entries ∙ ap (λ x. without c.args.p (order x)) c.self.view_is

pub returns-clause-fewer : goal.returns-clause-fewer
returns-clause-fewer g c =
    ap (λ f. length f.entries + 1) c.pop.ensures.entries ∙ length-remove_entry c.self.inside.frames.entries c.args.p (ap (λ (x : Pooled). is_some (frame_of x c.args.p)) c.self.view_is ∙ c.requires.pooled)
    ∙ ap (λ (x : Pooled). length x.entries) c.self.view_is
