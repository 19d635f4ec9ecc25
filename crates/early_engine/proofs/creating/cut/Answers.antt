use Rattle.early_engine.proofs.NameLemmas.{two_events}
use Rattle.early_engine.proofs.creating.cut.Goals as goal

pub returns-clause-events : goal.returns-clause-events
returns-clause-events g c = two_events c.args.ledger.now c.enter.new.self c.enter_reply.new.ledger c.args.who c.args.number c.len-began.result c.args.snap.now c.enter.ensures c.enter_reply.ensures c.len-began.ensures
