-- The record whose sides are exchanged sets what stood before.
use Rattle.std.proofs.Common.{◌≡◌, ◌<◌, ℕ, sym, subst}
use Rattle.page_base.specs.declared.numbers.PageId.{PageId}
use Rattle.rec_log.specs.Records.{Record}
use Rattle.snap_pages.specs.Shown.{IsPinned}
use Rattle.undo_pass.specs.Backs.{TakesBack}
use Rattle.undo_pass.proofs.BackLemmas.{takes_back}
use Rattle.undo_pass.proofs.backing.take_back.Goals as goal

pub unpin-requires : goal.unpin-requires
unpin-requires g c =
    let r : Record = record { page = c.rec.inside.page; slot = c.rec.inside.slot; before = c.rec.inside.before; after = c.rec.inside.after } in
    let is : r ≡ c.args.rec = c.rec.view_is in
    subst (λ (f : PageId → ℕ). 0 < f r.page) (sym c.change.ensures.holds.pinned)
    (subst (λ (x : Record). IsPinned c.args.pages.now x.page) (sym is) c.requires.pinned)

pub returns : goal.returns
returns g c =
    let r : Record = record { page = c.rec.inside.page; slot = c.rec.inside.slot; before = c.rec.inside.before; after = c.rec.inside.after } in
    let is : r ≡ c.args.rec = c.rec.view_is in
    subst (λ (x : Record). TakesBack x c.args.pages.now c.unpin.new.self) is
    (takes_back r c.args.pages.now c.change.new.self c.unpin.new.self c.change.result
    (record {
      slots = c.change.ensures.slots;
      err = c.change.ensures.err;
      room = c.change.ensures.room;
      lacks = c.change.ensures.no_room;
      only = c.change.ensures.img;
      page = c.change.ensures.page;
      holds = c.change.ensures.holds;
      snaps = c.change.ensures.snaps;
      places = c.change.ensures.places;
      views = c.change.ensures.views;
    })
    (record { pinned = c.unpin.ensures.pins; shown = c.unpin.ensures.shown; snaps = c.unpin.ensures.snaps; places = c.unpin.ensures.places; views = c.unpin.ensures.views }))
