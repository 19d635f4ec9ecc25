-- The bytes that are set are the record's.
use Rattle.std.proofs.Common.{◌≡◌, ◌∙◌, ap, sym, subst}
use Rattle.std.proofs.lemmas.Result.{on_ok_weaker}
use Rattle.buf_pool.specs.Pool.{img as pool_img}
use Rattle.page_fmt.specs.Content.{content}
use Rattle.page_fmt.specs.Edits.{edited}
use Rattle.rec_log.specs.Records.{Record}
use Rattle.snap_pages.specs.Shown.{Shown}
use Rattle.snap_pages.specs.Views.{KeepsViews}
use Rattle.snap_pages.specs.Dues.{IsPushed}
use Rattle.snap_pages.specs.Slots.{SetsSlot}
use Rattle.snap_pages.proofs.SourceLemmas.{with_pool, change_keeps, slots_changed}
use Rattle.snap_pages.proofs.pages.SnapPages.change.Goals as goal

pub returns-clause-slots : goal.returns-clause-slots
returns-clause-slots g c =
    let v : Shown = record { pool = c.self.inside.pool; cat = c.self.inside.cat; sets = c.self.inside.sets.items } in
    let e : v ≡ c.args.self.now = c.self.view_is in
    let r : Record = record { page = c.rec.inside.page; slot = c.rec.inside.slot; before = c.rec.inside.before; after = c.rec.inside.after } in
    let is : r ≡ c.args.rec.now = c.rec.view_is in
    on_ok_weaker c.set_slot.result (λ done.
    subst (λ (x : Shown). SetsSlot x (with_pool v c.set_slot.new.self) c.args.p c.args.rec.now.slot c.args.rec.now.after) e
    (subst (λ (x : Record). SetsSlot v (with_pool v c.set_slot.new.self) c.args.p x.slot x.after) is
    (slots_changed v c.set_slot.new.self c.args.p r.slot r.after c.set_slot.ensures.img
    (done ∙ ap (edited (content (pool_img c.self.inside.pool c.args.p)) r.slot) c.as_slice.ensures))))
    c.set_slot.ensures.content

pub returns-clause-views : goal.returns-clause-views
returns-clause-views g c =
    let v : Shown = record { pool = c.self.inside.pool; cat = c.self.inside.cat; sets = c.self.inside.sets.items } in
    let e : v ≡ c.args.self.now = c.self.view_is in
    subst (λ (x : Shown). KeepsViews x (with_pool v c.set_slot.new.self)) e
    (change_keeps v c.set_slot.new.self c.args.p _ (subst (λ (x : Shown). IsPushed x c.args.p) (sym e) c.requires.pushed) c.set_slot.ensures.img c.set_slot.ensures.holds)
