use Rattle.std.proofs.Common.{refl}
use Rattle.stmt_prog.proofs.FeedLemmas.{effect_in}
use Rattle.stmt_prog.proofs.PlanLemmas.{ends}
use Rattle.stmt_prog.proofs.feeding.answered.Goals as goal

pub returns-clause-ends : goal.returns-clause-ends
returns-clause-ends c =
    let d = c.args.desc in
    ends c.args.head d c.args.own.now c.empty.result c.in_ok-effect.effect c.empty.ensures.owners c.empty.ensures.taken c.empty.ensures.edits c.empty.ensures.done c.empty.ensures.told
    (effect_in c.args.own.now c.args.own.now d.cols d.root c.args.stmt.now c.args.head.stmt c.in_ok-effect.effect refl c.requires.lent c.in_ok-effect.ensures.is)
