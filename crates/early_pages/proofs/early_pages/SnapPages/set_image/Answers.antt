use Rattle.std.proofs.Common.{◌≡◌, ◌∙◌, ap, sym, subst}
use Rattle.page_base.specs.Pages.{set_at}
use Rattle.early_pages.specs.Shown.{Shown, img, counts, IsThere}
use Rattle.early_pages.specs.Views.{KeepsViews, IsPushed}
use Rattle.early_pages.proofs.ChangeLemmas.{with_image, images_set, image_keeps, image_counts, image_whole}
use Rattle.early_pages.proofs.early_pages.SnapPages.set_image.Goals as goal

pub invariant_of-self : goal.invariant_of-self
invariant_of-self g c =
    let v : Shown = record { images = c.self.inside.images; cat = c.self.inside.cat } in
    image_whole v c.args.p c.set.new.self c.self.invariant

pub returns-clause-img : goal.returns-clause-img
returns-clause-img g c =
    let v : Shown = record { images = c.self.inside.images; cat = c.self.inside.cat } in
    let e : v ≡ c.args.self.now = c.self.view_is in
    images_set v c.args.p (subst (λ (x : Shown). IsThere x c.args.p) (sym e) c.requires.page) c.set.new.self
    ∙ (λ i. set_at (img (e i)) c.args.p (c.set.ensures i))

pub returns-clause-counts : goal.returns-clause-counts
returns-clause-counts g c =
    let v : Shown = record { images = c.self.inside.images; cat = c.self.inside.cat } in
    let e : v ≡ c.args.self.now = c.self.view_is in
    image_counts v c.args.p c.set.new.self ∙ ap counts e

pub returns-clause-views : goal.returns-clause-views
returns-clause-views g c =
    let v : Shown = record { images = c.self.inside.images; cat = c.self.inside.cat } in
    let e : v ≡ c.args.self.now = c.self.view_is in
    let there : IsThere v c.args.p = subst (λ (x : Shown). IsThere x c.args.p) (sym e) c.requires.page in
    subst (λ (x : Shown). KeepsViews x (with_image v c.args.p c.set.new.self)) e (image_keeps v c.args.p there c.set.new.self (subst (λ (x : Shown). IsPushed x c.args.p) (sym e) c.requires.pushed))
