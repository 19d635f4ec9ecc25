-- A pin and its end, with pushes between.
use Rattle.std.proofs.Common.{ℕ, ◌<◌, ap, sym, subst, ◌∙◌}
use Rattle.page_base.specs.declared.numbers.PageId.{PageId}
use Rattle.buf_pool.specs.Pool.{without_pin}
use Rattle.snap_pages.proofs.PinLemmas.{pin_unpin}
use Rattle.snap_pages.specs.Shown.{pins}
use Rattle.page_times.proofs.pushes.push_all.Goals as goal

pub unpin-requires : goal.unpin-requires
unpin-requires c = subst (λ (f : PageId → ℕ). 0 < f c.args.p) (sym c.push_each.ensures.pins) c.in_ok-fetch_source.ensures.pinned

pub returns-in_err-fetch_source-clause-free : goal.returns-in_err-fetch_source-clause-free
returns-in_err-fetch_source-clause-free c = λ q. (λ i. c.in_err-fetch_source.ensures.stays.pinned i q) ∙ c.requires.free q

pub returns-clause-free : goal.returns-clause-free
returns-clause-free c = λ q.
    (λ i. (c.unpin.ensures.pins ∙ ap (λ (f : PageId → ℕ). without_pin f c.args.p) (c.push_each.ensures.pins ∙ c.in_ok-fetch_source.ensures.once.pinned) ∙ pin_unpin (pins c.args.pages.now) c.args.p) i q) ∙ c.requires.free q
