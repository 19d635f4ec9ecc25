use Rattle.early_engine.proofs.AnswerLemmas.{does_one, locks_few}
use Rattle.early_engine.proofs.answering.carry_out.Goals as goal

pub returns-clause-does : goal.returns-clause-does
returns-clause-does g c = does_one c.args.who.0 c.args.number c.len-began.result c.args.decision.answer c.into_reply.result c.args.ledger.now c.enter_locks.new.ledger c.do_edits.new.ledger c.enter_reply.new.ledger c.args.pages.now c.do_edits.new.pages
    c.enter_locks.ensures.events c.enter_locks.ensures.room c.do_edits.ensures.edits.turns c.do_edits.ensures.edits.leaves c.enter_reply.ensures c.into_reply.ensures c.len-began.ensures c.requires.1.1.1.0 (locks_few c.args.who.0 c.args.decision.answer)
