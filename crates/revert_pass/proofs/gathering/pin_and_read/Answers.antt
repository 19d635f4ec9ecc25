-- A pin and its end, where the copy isn't read.
use Rattle.std.proofs.Common.{◌<◌, ℕ, ap, sym, ◌∙◌, subst}
use Rattle.page_base.specs.declared.numbers.PageId.{PageId}
use Rattle.buf_pool.specs.Pool.{without_pin}
use Rattle.snap_pages.specs.Shown.{pins}
use Rattle.snap_pages.proofs.PinLemmas.{pin_unpin, pinned_more}
use Rattle.revert_pass.proofs.ShowLemmas.{on_err, pinned_same, show_on, show_once, show_unpinned}
use Rattle.buf_pool.specs.Pool.{Pooled}
use Rattle.revert_pass.proofs.RefusedLemmas.{fetched_on, unread_on}
use Rattle.revert_pass.proofs.gathering.pin_and_read.Goals as goal

pub unpin-requires : goal.unpin-requires
unpin-requires g c = subst (λ (f : PageId → ℕ). 0 < f c.args.p) (sym c.read_copy-read.ensures.pins) c.in_ok-fetch_source.ensures.pinned

pub returns-then-is_err-clause-same : goal.returns-then-is_err-clause-same
returns-then-is_err-clause-same g c =
    show_on c.args.s c.args.pages.now c.fetch_source.new.self c.unpin.new.self
    (pinned_more (pins c.args.pages.now) (pins c.fetch_source.new.self) c.args.p c.in_ok-fetch_source.ensures.once.pinned)
    (show_once c.args.s c.args.pages.now c.fetch_source.new.self c.fetch_source.ensures.places c.fetch_source.ensures.views c.fetch_source.ensures.snaps c.args.p c.in_ok-fetch_source.ensures.once)
    (show_on c.args.s c.fetch_source.new.self c.read_copy-read.new.pages c.unpin.new.self
    (pinned_same c.fetch_source.new.self c.read_copy-read.new.pages c.read_copy-read.ensures.pins)
    c.read_copy-read.ensures.same
    (show_unpinned c.args.s c.read_copy-read.new.pages c.unpin.new.self c.unpin.ensures.places c.unpin.ensures.views c.unpin.ensures.snaps c.unpin.ensures.shown))

pub returns-then-is_err-clause-pins : goal.returns-then-is_err-clause-pins
returns-then-is_err-clause-pins g c = on_err c.read_copy-read.result
    (c.unpin.ensures.pins
    ∙ ap (λ (f : PageId → ℕ). without_pin f c.args.p) (c.read_copy-read.ensures.pins ∙ c.in_ok-fetch_source.ensures.once.pinned)
    ∙ pin_unpin (pins c.args.pages.now) c.args.p)

pub returns-else-is_err-clause-same : goal.returns-else-is_err-clause-same
returns-else-is_err-clause-same g c =
    show_on c.args.s c.args.pages.now c.fetch_source.new.self c.read_copy-read.new.pages
    (pinned_more (pins c.args.pages.now) (pins c.fetch_source.new.self) c.args.p c.in_ok-fetch_source.ensures.once.pinned)
    (show_once c.args.s c.args.pages.now c.fetch_source.new.self c.fetch_source.ensures.places c.fetch_source.ensures.views c.fetch_source.ensures.snaps c.args.p c.in_ok-fetch_source.ensures.once)
    c.read_copy-read.ensures.same

pub returns-then-is_err-clause-refused : goal.returns-then-is_err-clause-refused
returns-then-is_err-clause-refused g c =
    unread_on c.args.s c.args.p c.args.pages.now c.fetch_source.new.self c.read_copy-read.new.pages c.unpin.new.self
    c.fetch_source.ensures.snaps.sets
    c.unpin.ensures.snaps.sets
    (fetched_on c.args.p c.args.pages.now c.fetch_source.new.self c.unpin.new.self
    c.fetch_source.ensures.no_calls
    c.in_ok-fetch_source.ensures.called
    (c.unpin.ensures.shown.files ∙ ap (λ (x : Pooled). x.files) c.read_copy-read.ensures.pool))
    c.read_copy-read.result
    c.read_copy-read.ensures.refused
