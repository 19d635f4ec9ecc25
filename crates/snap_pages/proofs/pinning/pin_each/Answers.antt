-- A record's page is pinned, and has room for one pin more.
use Rattle.std.proofs.Common.{◌≡◌, ◌<◌, ◌^◌, ℕ, sym, ap, subst, ◌∙◌}
use Rattle.page_base.specs.declared.numbers.PageId.{PageId}
use Rattle.rec_log.specs.Records.{Record}
use Rattle.buf_pool.specs.Pool.{pins, with_pin}
use Rattle.snap_pages.proofs.PinLemmas.{pinned_before, room_for_pin, with_pins_more, shown_trans}
use Rattle.snap_pages.proofs.pinning.pin_each.Goals as goal

pub pin-requires-clause-pinned : goal.pin-requires-clause-pinned
pin-requires-clause-pinned g c =
    let page : c.rec.inside.page ≡ c.rec-item.result.page = ap (λ (r : Record). r.page) c.rec.view_is in
    subst (λ (p : PageId). 0 < pins c.loop-rec.pool p) (sym page)
    (subst (λ (f : PageId → ℕ). 0 < f c.rec-item.result.page) (sym c.loop-rec.invariant.pinned)
    (pinned_before (pins c.args.pool.now) c.args.recs.now c.loop-rec.rec-index c.rec-item.result c.loop-rec-test.true c.rec-item.is c.requires.held))

pub pin-requires-clause-few : goal.pin-requires-clause-few
pin-requires-clause-few g c =
    let page : c.rec.inside.page ≡ c.rec-item.result.page = ap (λ (r : Record). r.page) c.rec.view_is in
    subst (λ (p : PageId). pins c.loop-rec.pool p < 2 ^ 100) (sym page)
    (subst (λ (f : PageId → ℕ). f c.rec-item.result.page < 2 ^ 100) (sym c.loop-rec.invariant.pinned)
    (room_for_pin (pins c.args.pool.now) c.args.recs.now c.loop-rec.rec-index c.rec-item.result c.loop-rec-test.true c.rec-item.is c.requires.bound))

pub loop-rec-preserved : goal.loop-rec-preserved
loop-rec-preserved g c =
    let page : c.rec.inside.page ≡ c.rec-item.result.page = ap (λ (r : Record). r.page) c.rec.view_is in
    record {
      pinned =
          c.pin.ensures.pins
          ∙ (λ i. with_pin (c.loop-rec.invariant.pinned i) (page i))
          ∙ with_pins_more (pins c.args.pool.now) c.args.recs.now c.loop-rec.rec-index c.rec-item.result c.loop-rec-test.true c.rec-item.is;
      shown = shown_trans c.args.pool.now c.loop-rec.pool c.pin.new.self c.loop-rec.invariant.shown c.pin.ensures.shown;
    }
