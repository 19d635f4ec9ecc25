-- A record's page is still pinned.
use Rattle.std.proofs.Common.{◌≡◌, ◌<◌, ℕ, sym, ap, subst, ◌∙◌}
use Rattle.page_base.specs.declared.numbers.PageId.{PageId}
use Rattle.rec_log.specs.Records.{Record}
use Rattle.buf_pool.specs.Pool.{pins, without_pin}
use Rattle.snap_pages.proofs.PinLemmas.{pinned_still, without_pins_more, shown_trans}
use Rattle.snap_pages.proofs.pinning.unpin_each.Goals as goal

pub unpin-requires : goal.unpin-requires
unpin-requires g c =
    let page : c.rec.inside.page ≡ c.rec-item.result.page = ap (λ (r : Record). r.page) c.rec.view_is in
    subst (λ (p : PageId). 0 < pins c.loop-rec.pool p) (sym page)
    (subst (λ (f : PageId → ℕ). 0 < f c.rec-item.result.page) (sym c.loop-rec.invariant.pinned)
    (pinned_still (pins c.args.pool.now) c.args.recs.now c.loop-rec.rec-index c.rec-item.result c.loop-rec-test.true c.rec-item.is c.requires))

pub loop-rec-preserved : goal.loop-rec-preserved
loop-rec-preserved g c =
    let page : c.rec.inside.page ≡ c.rec-item.result.page = ap (λ (r : Record). r.page) c.rec.view_is in
    record {
      pinned =
          c.unpin.ensures.pins
          ∙ (λ i. without_pin (c.loop-rec.invariant.pinned i) (page i))
          ∙ without_pins_more (pins c.args.pool.now) c.args.recs.now c.loop-rec.rec-index c.rec-item.result c.loop-rec-test.true c.rec-item.is;
      shown = shown_trans c.args.pool.now c.loop-rec.pool c.unpin.new.self c.loop-rec.invariant.shown c.unpin.ensures.shown;
    }
