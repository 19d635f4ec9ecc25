-- The last record holds a pin of its own.
use Rattle.std.proofs.Common.{◌≡◌, ◌<◌, ◌∷◌, ◌++◌, [], ap, sym, subst, ◌∙◌}
use Rattle.page_base.specs.declared.numbers.PageId.{PageId}
use Rattle.rec_log.specs.Records.{Record, WorkOf}
use Rattle.buf_pool.specs.Pool.{pins as pool_pins, without_pin}
use Rattle.snap_cat.specs.Catalog.{with_owed}
use Rattle.snap_pages.specs.Shown.{Shown, IsOpen, owes_of}
use Rattle.snap_pages.specs.Owed.{AreOwed}
use Rattle.snap_pages.specs.Steps.{SamePlaces}
use Rattle.snap_pages.proofs.OwedLemmas.{last_is_pinned, others_are_owed, owed_places}
use Rattle.snap_pages.proofs.pages.SnapPages.drop_owed.Goals as goal

pub unpin-requires : goal.unpin-requires
unpin-requires g c =
    let v : Shown = record { pool = c.self.inside.pool; cat = c.self.inside.cat; sets = c.self.inside.sets.items } in
    let e : v ≡ c.args.self.now = c.self.view_is in
    let was : owes_of v c.args.s ≡ c.pop.new.self.recs ++ c.in-Some.rec ∷ [] = sym (ap (λ (w : WorkOf). w.recs) c.owed.ensures.value) ∙ c.in-Some.ensures.last in
    let page : c.rec.inside.page ≡ c.in-Some.rec.page = ap (λ (r : Record). r.page) c.rec.view_is in
    subst (λ (p : PageId). 0 < pool_pins v.pool p) (sym page)
    (last_is_pinned v c.args.s c.pop.new.self.recs c.in-Some.rec was (subst (λ (x : Shown). AreOwed x c.args.s) (sym e) c.requires.owed))

pub returns-in-Some-clause-owed : goal.returns-in-Some-clause-owed
returns-in-Some-clause-owed g c =
    let v : Shown = record { pool = c.self.inside.pool; cat = c.self.inside.cat; sets = c.self.inside.sets.items } in
    let e : v ≡ c.args.self.now = c.self.view_is in
    let there : IsOpen v c.args.s = subst (λ (x : Shown). IsOpen x c.args.s) (sym e) c.requires.snap in
    let was : owes_of v c.args.s ≡ c.pop.new.self.recs ++ c.in-Some.rec ∷ [] = sym (ap (λ (w : WorkOf). w.recs) c.owed.ensures.value) ∙ c.in-Some.ensures.last in
    let page : c.rec.inside.page ≡ c.in-Some.rec.page = ap (λ (r : Record). r.page) c.rec.view_is in
    others_are_owed v c.args.s c.pop.new.self c.in-Some.rec c.unpin.new.self there was (subst (λ (x : Shown). AreOwed x c.args.s) (sym e) c.requires.owed)
    (c.unpin.ensures.pins ∙ ap (without_pin (pool_pins v.pool)) page)

pub returns-in-Some-clause-places : goal.returns-in-Some-clause-places
returns-in-Some-clause-places g c =
    let v : Shown = record { pool = c.self.inside.pool; cat = c.self.inside.cat; sets = c.self.inside.sets.items } in
    let e : v ≡ c.args.self.now = c.self.view_is in
    let there : IsOpen v c.args.s = subst (λ (x : Shown). IsOpen x c.args.s) (sym e) c.requires.snap in
    subst (λ (x : Shown). SamePlaces x (record v { pool = c.unpin.new.self; cat = with_owed v.cat c.args.s c.pop.new.self })) e
    (owed_places v c.args.s c.pop.new.self c.unpin.new.self there c.unpin.ensures.shown.files)
