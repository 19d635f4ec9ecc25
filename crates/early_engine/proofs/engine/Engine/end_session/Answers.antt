use Rattle.early_engine.proofs.OrderLemmas.{rounds_on}
use Rattle.early_engine.proofs.engine.Engine.end_session.Goals as goal

pub returns-clause-rounds : goal.returns-clause-rounds
returns-clause-rounds g c = rounds_on c.args.self.now c.answer_all.new.self c.leave_last.new.self c.answer_all.ensures.rounds c.leave_last.ensures.rounds
