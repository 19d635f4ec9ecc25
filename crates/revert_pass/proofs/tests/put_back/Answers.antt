-- What was gathered is one page, which is held.
use Rattle.std.proofs.Common.{ap, sym, ◌∙◌, subst}
use Rattle.std.proofs.lemmas.Bool.{false≢true}
use Rattle.snap_pages.specs.Shown.{pins}
use Rattle.revert_pass.specs.Got.{Got, AreGotPushed, AreHeld, has, ungathered}
use Rattle.revert_pass.proofs.HeldLemmas.{held_more, pins_let_go, pushed_more}
use Rattle.revert_pass.proofs.tests.put_back.Goals as goal

pub gather-requires-clause-lacks : goal.gather-requires-clause-lacks
gather-requires-clause-lacks g c = ap (λ (x : Got). has x c.args.p) c.in_ok-got.ensures

pub swap-requires-clause-held : goal.swap-requires-clause-held
swap-requires-clause-held g c =
    held_more c.args.s c.args.p c.args.pages.now c.gather.new.pages c.in_ok-got.got c.gather.new.got c.in_ok-gather.ensures.adds c.in_ok-gather.ensures.once
    (subst (λ (x : Got). AreHeld x c.args.pages.now) (sym c.in_ok-got.ensures) (λ q h. absurd (false≢true h)))

pub swap-requires-clause-pushed : goal.swap-requires-clause-pushed
swap-requires-clause-pushed g c =
    pushed_more c.args.s c.args.p c.args.pages.now c.gather.new.pages c.in_ok-got.got c.gather.new.got c.in_ok-gather.ensures.adds
    (subst (λ (x : Got). AreGotPushed x c.gather.new.pages) (sym c.in_ok-got.ensures) (λ q h. absurd (false≢true h)))
    c.in-None.ensures.due

pub let_go-requires : goal.let_go-requires
let_go-requires g c = record {
  held =
      held_more c.args.s c.args.p c.args.pages.now c.gather.new.pages c.in_ok-got.got c.gather.new.got c.in_ok-gather.ensures.adds c.in_ok-gather.ensures.once
      (subst (λ (x : Got). AreHeld x c.args.pages.now) (sym c.in_ok-got.ensures) (λ q h. absurd (false≢true h)));
}

pub returns-in-None-clause-pins : goal.returns-in-None-clause-pins
returns-in-None-clause-pins g c =
    c.swap.ensures.pins ∙ ap (ungathered c.gather.new.got) c.in_ok-gather.ensures.once
    ∙ pins_let_go c.args.s c.args.p c.args.pages.now c.gather.new.pages c.in_ok-got.got c.gather.new.got c.in_ok-gather.ensures.adds (pins c.args.pages.now) (ap (λ (x : Got). has x c.args.p) c.in_ok-got.ensures)
    ∙ ap (λ (x : Got). ungathered x (pins c.args.pages.now)) c.in_ok-got.ensures

pub returns-in-Some-clause-pins : goal.returns-in-Some-clause-pins
returns-in-Some-clause-pins g c =
    c.let_go.ensures.pins ∙ ap (ungathered c.gather.new.got) c.in_ok-gather.ensures.once
    ∙ pins_let_go c.args.s c.args.p c.args.pages.now c.gather.new.pages c.in_ok-got.got c.gather.new.got c.in_ok-gather.ensures.adds (pins c.args.pages.now) (ap (λ (x : Got). has x c.args.p) c.in_ok-got.ensures)
    ∙ ap (λ (x : Got). ungathered x (pins c.args.pages.now)) c.in_ok-got.ensures
