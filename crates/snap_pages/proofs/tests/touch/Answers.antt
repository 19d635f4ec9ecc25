-- A pin and its end.
use Rattle.std.proofs.Common.{◌<◌, ℕ, ap, sym, ◌∙◌, subst}
use Rattle.page_base.specs.declared.numbers.PageId.{PageId}
use Rattle.buf_pool.specs.Pool.{without_pin}
use Rattle.snap_pages.proofs.PinLemmas.{pin_unpin}
use Rattle.snap_pages.specs.Shown.{pins}
use Rattle.snap_pages.proofs.tests.touch.Goals as goal

pub unpin-requires : goal.unpin-requires
unpin-requires g c = subst (λ (f : PageId → ℕ). 0 < f c.args.p) (sym c.push_or_change-pushed.ensures.pins) c.in_ok-fetch_source.ensures.pinned

pub returns-clause-pins : goal.returns-clause-pins
returns-clause-pins g c =
    c.unpin.ensures.pins
    ∙ ap (λ (f : PageId → ℕ). without_pin f c.args.p) (c.push_or_change-pushed.ensures.pins ∙ c.in_ok-fetch_source.ensures.once.pinned)
    ∙ pin_unpin (pins c.args.pages.now) c.args.p
