use Rattle.std.proofs.Common.{◌+◌, ◌∙◌, List, get_or, take, drop, refl, ap, sym, subst}
use Rattle.std.proofs.lemmas.List.{take_more, drop_more}
use Rattle.plain_model.specs.declared.pick.Pick.{Pick}
use Rattle.plain_model.specs.declared.pick.Until.TheVariants.{One}
use Rattle.early_engine.specs.Schedules.{Plays, none, more, due_order}
use Rattle.early_engine.proofs.EndLemmas.{goes_still, goes_on}
use Rattle.early_engine.proofs.OrderLemmas.{takes_one}
use Rattle.early_engine.proofs.engine.Engine.run.Goals as goal

pub loop-pick-init : goal.loop-pick-init
loop-pick-init g c = record { goes = goes_still c.args.self.now; plays = none c.args.self.now; order = refl }

pub loop-pick-preserved : goal.loop-pick-preserved
loop-pick-preserved g c =
    let inv = c.loop-pick.invariant in
    let lt = c.loop-pick-test.true in
    let nobody : Pick = record { who = 0; until = One } in
    let pick = get_or c.args.picks.now c.loop-pick.pick-index nobody in
    let rest = drop (c.loop-pick.pick-index + 1) c.args.picks.now in
    record {
      goes = goes_on c.args.self.now c.loop-pick.self c.step-moved.new.self inv.goes c.step-moved.ensures.goes;
      plays = subst (λ (ps : List Pick). Plays ps c.args.self.now c.step-moved.new.self) (sym (take_more c.args.picks.now c.loop-pick.pick-index nobody lt))
          (more (take c.loop-pick.pick-index c.args.picks.now) pick c.args.self.now c.loop-pick.self c.step-moved.new.self inv.plays c.step-moved.ensures.takes);
      order = takes_one c.loop-pick.self c.step-moved.new.self pick rest c.step-moved.ensures.takes
          ∙ ap (due_order c.loop-pick.self) (sym (drop_more c.args.picks.now c.loop-pick.pick-index nobody lt)) ∙ inv.order;
    }
