-- The frame that is found is that of its page.
use Rattle.std.proofs.Common.{◌≡◌, Contains, sym, subst}
use Rattle.page_base.specs.declared.numbers.PageId.{PageId}
use Rattle.buf_pool.specs.declared.frame.Frame.{Frame}
use Rattle.buf_pool.specs.Pool.{Pooled}
use Rattle.buf_pool.specs.Order.{IsUnpinned}
use Rattle.buf_pool.proofs.OrderLemmas.{unpinned_entry, Contains-last}
use Rattle.buf_pool.proofs.pool.Pool.victim.Goals as goal

pub returns-then-frame-eq0-clause-unpinned : goal.returns-then-frame-eq0-clause-unpinned
returns-then-frame-eq0-clause-unpinned g c =
    let v : Pooled = record { files = c.self.inside.files; entries = c.self.inside.frames.entries; frames = c.self.inside.frames.cap } in
    let e : v ≡ c.args.self.now = c.self.view_is in
    let last : PageId × Frame = (c.in-Some.page.now, c.in-Some.frame.now) in
    let here : Contains c.loop-page.entries last = subst (λ l. Contains l last) (sym c.in-Some.ensures.steps) (Contains-last c.next_back.new.self last) in
    subst (λ (x : Pooled). IsUnpinned x c.in-Some.page.now) e (unpinned_entry v c.in-Some.page.now c.in-Some.frame.now c.len-count.ensures.valid.0
    (subst (λ (x : Pooled). Contains x.entries last) (sym e) (c.loop-page.invariant.among last here)) c.if-frame-eq0.true)
