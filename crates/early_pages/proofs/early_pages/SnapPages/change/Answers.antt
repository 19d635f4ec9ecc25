use Rattle.std.proofs.Common.{◌≡◌, ◌∙◌, ap, sym, subst}
use Rattle.std.proofs.lemmas.Result.{on_ok_weaker, on_err_weaker}
use Rattle.page_base.specs.Pages.{blank, set_at}
use Rattle.page_base.specs.Slots.{with_slot}
use Rattle.page_fmt.specs.Content.{content, IsPage}
use Rattle.page_fmt.specs.Edits.{edited}
use Rattle.early_pages.specs.Shown.{Shown, img, counts, IsThere}
use Rattle.early_pages.specs.Views.{KeepsViews, IsPushed}
use Rattle.early_pages.specs.Slots.{slots_of}
use Rattle.early_pages.proofs.ChangeLemmas.{with_image, now_is, images_set, image_keeps, image_counts, image_whole, image_same, slots_changed}
use Rattle.early_pages.proofs.early_pages.SnapPages.change.Goals as goal

pub invariant_of-self : goal.invariant_of-self
invariant_of-self g c =
    let v : Shown = record { images = c.self.inside.images; cat = c.self.inside.cat } in
    image_whole v c.args.p c.edit.new.image c.self.invariant

pub returns-clause-slots : goal.returns-clause-slots
returns-clause-slots g c =
    let v : Shown = record { images = c.self.inside.images; cat = c.self.inside.cat } in
    let e : v ≡ c.args.self.now = c.self.view_is in
    let there : IsThere v c.args.p = subst (λ (x : Shown). IsThere x c.args.p) (sym e) c.requires.page in
    let at : c.get_mut.result.now ≡ img v c.args.p = sym (c.get_mut.ensures.value blank) in
    on_ok_weaker c.edit.result (λ is. slots_changed v c.args.p c.get_mut.result.now c.edit.new.image c.args.slot c.args.after.now there at is ∙ ap (λ (x : Shown). with_slot (slots_of (img x)) c.args.p c.args.slot c.args.after.now) e) c.edit.ensures.ok

pub returns-clause-content : goal.returns-clause-content
returns-clause-content g c =
    let v : Shown = record { images = c.self.inside.images; cat = c.self.inside.cat } in
    let e : v ≡ c.args.self.now = c.self.view_is in
    let there : IsThere v c.args.p = subst (λ (x : Shown). IsThere x c.args.p) (sym e) c.requires.page in
    let at : c.get_mut.result.now ≡ img c.args.self.now c.args.p = sym (c.get_mut.ensures.value blank) ∙ ap (λ (x : Shown). img x c.args.p) e in
    on_ok_weaker c.edit.result (λ is. ap content (now_is v c.args.p there c.edit.new.image) ∙ is ∙ ap (λ o. edited (content o) c.args.slot c.args.after.now) at) c.edit.ensures.ok

pub returns-clause-err : goal.returns-clause-err
returns-clause-err g c =
    let v : Shown = record { images = c.self.inside.images; cat = c.self.inside.cat } in
    let e : v ≡ c.args.self.now = c.self.view_is in
    on_err_weaker c.edit.result (λ same. image_same v c.args.p c.get_mut.result.now c.edit.new.image (sym (c.get_mut.ensures.value blank)) same ∙ e) c.edit.ensures.err

pub returns-clause-img : goal.returns-clause-img
returns-clause-img g c =
    let v : Shown = record { images = c.self.inside.images; cat = c.self.inside.cat } in
    let e : v ≡ c.args.self.now = c.self.view_is in
    let there : IsThere v c.args.p = subst (λ (x : Shown). IsThere x c.args.p) (sym e) c.requires.page in
    let now : img (with_image v c.args.p c.edit.new.image) c.args.p ≡ c.edit.new.image = now_is v c.args.p there c.edit.new.image in
    images_set v c.args.p there c.edit.new.image ∙ ap (set_at (img v) c.args.p) (sym now) ∙ ap (λ (x : Shown). set_at (img x) c.args.p (img (with_image v c.args.p c.edit.new.image) c.args.p)) e

pub returns-clause-page : goal.returns-clause-page
returns-clause-page g c =
    let v : Shown = record { images = c.self.inside.images; cat = c.self.inside.cat } in
    let e : v ≡ c.args.self.now = c.self.view_is in
    let there : IsThere v c.args.p = subst (λ (x : Shown). IsThere x c.args.p) (sym e) c.requires.page in
    subst IsPage (sym (now_is v c.args.p there c.edit.new.image)) c.edit.ensures.page

pub returns-clause-counts : goal.returns-clause-counts
returns-clause-counts g c =
    let v : Shown = record { images = c.self.inside.images; cat = c.self.inside.cat } in
    let e : v ≡ c.args.self.now = c.self.view_is in
    image_counts v c.args.p c.edit.new.image ∙ ap counts e

pub returns-clause-views : goal.returns-clause-views
returns-clause-views g c =
    let v : Shown = record { images = c.self.inside.images; cat = c.self.inside.cat } in
    let e : v ≡ c.args.self.now = c.self.view_is in
    let there : IsThere v c.args.p = subst (λ (x : Shown). IsThere x c.args.p) (sym e) c.requires.page in
    subst (λ (x : Shown). KeepsViews x (with_image v c.args.p c.edit.new.image)) e (image_keeps v c.args.p there c.edit.new.image (subst (λ (x : Shown). IsPushed x c.args.p) (sym e) c.requires.pushed))
