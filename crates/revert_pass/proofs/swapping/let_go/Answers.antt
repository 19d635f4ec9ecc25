-- From the last page on, each one's pin is taken back.
use Rattle.std.proofs.Common.{◌≡◌, ◌∷◌, ◌++◌, [], ◌∙◌, subst}
use Rattle.snap_pages.specs.Shown.{pins}
use Rattle.revert_pass.specs.Got.{Got, ungathered}
use Rattle.revert_pass.proofs.GotLemmas.{emptied}
use Rattle.revert_pass.proofs.SwapLemmas.{Holding, holds_less, holds_pinned, rest_unpinned}
use Rattle.revert_pass.proofs.swapping.let_go.Goals as goal

pub unpin-requires : goal.unpin-requires
unpin-requires g c =
    let way : Holding c.args.got c.args.pages.now (c.pop.new.self.items ++ (c.in-Some.page, c.in-Some._image) ∷ []) c.loop-page.pages =
    subst (λ (x : Got). Holding c.args.got c.args.pages.now x c.loop-page.pages) c.in-Some.ensures.items c.loop-page.invariant.0 in
    holds_pinned c.args.got c.args.pages.now c.loop-page.pages c.loop-page.pages c.pop.new.self.items c.in-Some.page c.in-Some._image way

pub loop-page-preserved : goal.loop-page-preserved
loop-page-preserved g c =
    let way : Holding c.args.got c.args.pages.now (c.pop.new.self.items ++ (c.in-Some.page, c.in-Some._image) ∷ []) c.loop-page.pages =
    subst (λ (x : Got). Holding c.args.got c.args.pages.now x c.loop-page.pages) c.in-Some.ensures.items c.loop-page.invariant.0 in (
      holds_less c.args.got c.args.pages.now c.loop-page.pages c.unpin.new.self c.pop.new.self.items c.in-Some.page c.in-Some._image way c.unpin.ensures.pins
          (rest_unpinned c.loop-page.pages c.unpin.new.self c.unpin.ensures.shown c.unpin.ensures.snaps c.unpin.ensures.places c.unpin.ensures.views),
      c.unpin.ensures.shown.images ∙ c.loop-page.invariant.1,
    )

pub returns-clause-pins : goal.returns-clause-pins
returns-clause-pins g c = subst (λ (x : Got). ungathered x (pins c.loop-page.pages) ≡ ungathered c.args.got (pins c.args.pages.now)) (emptied c.pop.result _ _ _ c.loop-page.kept.items c.pop.ensures.cases c.in_default.not-Some c.loop-page.kept.ok.0) c.loop-page.invariant.0.pinned
