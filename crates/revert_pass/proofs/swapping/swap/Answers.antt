-- From the last page on, each one's image is set and its pin taken back.
use Rattle.std.proofs.Common.{◌≡◌, ◌<◌, ℕ, ◌∷◌, ◌++◌, [], ap, sym, ◌∙◌, subst}
use Rattle.page_base.specs.declared.numbers.PageId.{PageId}
use Rattle.buf_pool.specs.Pool.{without_pin}
use Rattle.snap_pages.specs.Shown.{img, pins}
use Rattle.revert_pass.specs.Got.{Got, ungathered, swapped}
use Rattle.revert_pass.proofs.GotLemmas.{emptied}
use Rattle.revert_pass.proofs.SwapLemmas.{Swapping, holds_pinned, rest_on, rest_set, rest_unpinned, swaps_less, swaps_page, swaps_pushed}
use Rattle.revert_pass.proofs.swapping.swap.Goals as goal

pub set_image-requires-clause-pinned : goal.set_image-requires-clause-pinned
set_image-requires-clause-pinned g c =
    let way : Swapping c.args.got c.args.pages.now (c.pop.new.self.items ++ (c.in-Some.page, c.in-Some.image) ∷ []) c.loop-page.pages =
    subst (λ (x : Got). Swapping c.args.got c.args.pages.now x c.loop-page.pages) c.in-Some.ensures.items c.loop-page.invariant in
    holds_pinned c.args.got c.args.pages.now c.loop-page.pages c.loop-page.pages c.pop.new.self.items c.in-Some.page c.in-Some.image way.holds

pub set_image-requires-clause-pushed : goal.set_image-requires-clause-pushed
set_image-requires-clause-pushed g c =
    let way : Swapping c.args.got c.args.pages.now (c.pop.new.self.items ++ (c.in-Some.page, c.in-Some.image) ∷ []) c.loop-page.pages =
    subst (λ (x : Got). Swapping c.args.got c.args.pages.now x c.loop-page.pages) c.in-Some.ensures.items c.loop-page.invariant in
    swaps_pushed c.args.got c.args.pages.now c.loop-page.pages c.loop-page.pages c.pop.new.self.items c.in-Some.page c.in-Some.image way

pub set_image-requires-clause-page : goal.set_image-requires-clause-page
set_image-requires-clause-page g c =
    let way : Swapping c.args.got c.args.pages.now (c.pop.new.self.items ++ (c.in-Some.page, c.in-Some.image) ∷ []) c.loop-page.pages =
    subst (λ (x : Got). Swapping c.args.got c.args.pages.now x c.loop-page.pages) c.in-Some.ensures.items c.loop-page.invariant in
    swaps_page c.args.got c.args.pages.now c.loop-page.pages c.loop-page.pages c.pop.new.self.items c.in-Some.page c.in-Some.image way

pub unpin-requires : goal.unpin-requires
unpin-requires g c =
    let way : Swapping c.args.got c.args.pages.now (c.pop.new.self.items ++ (c.in-Some.page, c.in-Some.image) ∷ []) c.loop-page.pages =
    subst (λ (x : Got). Swapping c.args.got c.args.pages.now x c.loop-page.pages) c.in-Some.ensures.items c.loop-page.invariant in
    subst (λ (f : PageId → ℕ). 0 < f c.in-Some.page) (sym c.set_image.ensures.holds.pinned)
    (holds_pinned c.args.got c.args.pages.now c.loop-page.pages c.loop-page.pages c.pop.new.self.items c.in-Some.page c.in-Some.image way.holds)

pub loop-page-preserved : goal.loop-page-preserved
loop-page-preserved g c =
    let way : Swapping c.args.got c.args.pages.now (c.pop.new.self.items ++ (c.in-Some.page, c.in-Some.image) ∷ []) c.loop-page.pages =
    subst (λ (x : Got). Swapping c.args.got c.args.pages.now x c.loop-page.pages) c.in-Some.ensures.items c.loop-page.invariant in
    swaps_less c.args.got c.args.pages.now c.loop-page.pages c.unpin.new.self c.pop.new.self.items c.in-Some.page c.in-Some.image way
    (c.unpin.ensures.shown.images ∙ c.set_image.ensures.img)
    (c.unpin.ensures.pins ∙ ap (λ (f : PageId → ℕ). without_pin f c.in-Some.page) c.set_image.ensures.holds.pinned)
    (rest_on c.loop-page.pages c.set_image.new.self c.unpin.new.self
    (rest_set c.loop-page.pages c.set_image.new.self c.set_image.ensures.holds c.set_image.ensures.snaps c.set_image.ensures.places c.set_image.ensures.views)
    (rest_unpinned c.set_image.new.self c.unpin.new.self c.unpin.ensures.shown c.unpin.ensures.snaps c.unpin.ensures.places c.unpin.ensures.views))

pub returns-clause-img : goal.returns-clause-img
returns-clause-img g c = subst (λ (x : Got). swapped x (img c.loop-page.pages) ≡ swapped c.args.got (img c.args.pages.now)) (emptied c.pop.result _ _ _ c.loop-page.kept.items c.pop.ensures.cases c.in_default.not-Some c.loop-page.kept.ok.0) c.loop-page.invariant.images

pub returns-clause-pins : goal.returns-clause-pins
returns-clause-pins g c = subst (λ (x : Got). ungathered x (pins c.loop-page.pages) ≡ ungathered c.args.got (pins c.args.pages.now)) (emptied c.pop.result _ _ _ c.loop-page.kept.items c.pop.ensures.cases c.in_default.not-Some c.loop-page.kept.ok.0) c.loop-page.invariant.holds.pinned
