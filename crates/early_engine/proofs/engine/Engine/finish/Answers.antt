use Rattle.std.proofs.Common.{◌∙◌, List, length, refl, ap, sym, below_more, arith}
use Rattle.plain_model.specs.declared.stmt.Stmt.{Stmt}
use Rattle.early_engine.specs.declared.seat.Seat.{Seat}
use Rattle.early_engine.specs.Safe.{Run}
use Rattle.early_engine.specs.Steps.{HaveLeft}
use Rattle.early_engine.specs.Schedules.{none}
use Rattle.early_engine.proofs.EndLemmas.{goes_still, goes_on}
use Rattle.early_engine.proofs.OrderLemmas.{rounds_on, all_done}
use Rattle.early_engine.proofs.engine.Engine.finish.Goals as goal

pub loop-place-init : goal.loop-place-init
loop-place-init g c = record { goes = goes_still c.args.self.now; gone = λ j lt. absurd (omega (arith, lt)); rounds = none c.args.self.now; order = refl }

pub loop-place-preserved : goal.loop-place-preserved
loop-place-preserved g c =
    let inv = c.loop-place.invariant in
    let ended = c.end_session.ensures in
    record {
      goes = goes_on c.args.self.now c.loop-place.self c.end_session.new.self inv.goes ended.goes;
      gone = below_more _ _ (λ j lt. ap (λ (s : Seat). s.gone) (ended.others j (λ e. omega (arith, e, lt))) ∙ inv.gone j lt) ended.gone;
      rounds = rounds_on c.args.self.now c.loop-place.self c.end_session.new.self inv.rounds ended.rounds;
      order = ended.order ∙ inv.order;
    }

pub returns-clause-order : goal.returns-clause-order
returns-clause-order g c =
    let inv = c.loop-place.invariant in
    let same = ap (λ (ss : List (List Stmt)). length ss) inv.goes.scripts in
    let n = c.len-place-end.ensures in
    let past = c.loop-place-test.false in
    let mine = ap (λ (r : Run). length r.scripts) c.self.view_is in
    let left : HaveLeft c.loop-place.self = λ i lt. inv.gone i (omega (arith, lt, same, n, past, mine)) in
    sym (all_done c.loop-place.self left) ∙ inv.order
