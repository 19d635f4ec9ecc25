use Rattle.early_engine.proofs.PushLemmas.{some_sound, pushes_marked, turns_marked, pushes_turned, turns_turned}
use Rattle.early_engine.proofs.pushing.push.Goals as goal
use Rattle.std.proofs.Common.{arith}

pub turn-requires-clause-room : goal.turn-requires-clause-room
turn-requires-clause-room g c = let s = some_sound c.args.pages.now c.args.s c.requires.snap c.requires.due.sound in let r = c.requires.room in omega (arith, s, r)

pub returns-in-Ok-clause-pushes : goal.returns-in-Ok-clause-pushes
returns-in-Ok-clause-pushes g c = pushes_marked c.args.pages.now c.push_copy.new.self c.args.s c.args.p c.push_copy.result c.requires.snap c.push_copy.ensures.copies.uses c.push_copy.ensures.only c.push_copy.ensures.views c.push_mark.new.self c.push_mark.ensures.only c.push_mark.ensures.views

pub returns-in-Ok-clause-turns : goal.returns-in-Ok-clause-turns
returns-in-Ok-clause-turns g c = turns_marked c.args.pages.now c.push_copy.new.self c.args.s c.args.p c.push_copy.result c.requires.snap c.push_copy.ensures.copies.uses c.push_copy.ensures.only c.push_copy.ensures.views c.push_mark.new.self c.push_mark.ensures.only c.push_mark.ensures.views c.args.ledger.now

pub returns-in-Ok-clause-dues : goal.returns-in-Ok-clause-dues
returns-in-Ok-clause-dues g c = record { each = λ s due. c.push_copy.ensures.dues.each s (c.push_mark.ensures.dues.each s due) }

pub returns-in-Err-clause-pushes : goal.returns-in-Err-clause-pushes
returns-in-Err-clause-pushes g c = pushes_turned c.args.pages.now c.push_copy.new.self c.args.s c.args.p c.push_copy.result c.requires.snap c.push_copy.ensures.copies.uses c.push_copy.ensures.only c.push_copy.ensures.views c.turn.new.pages c.turn.ensures.only c.turn.ensures.views (c.cat.ensures.few) c.requires.due.sound c.in-Err.ensures.cause.failed

pub returns-in-Err-clause-turns : goal.returns-in-Err-clause-turns
returns-in-Err-clause-turns g c = turns_turned c.args.pages.now c.push_copy.new.self c.args.s c.args.p c.push_copy.result c.requires.snap c.push_copy.ensures.copies.uses c.push_copy.ensures.only c.push_copy.ensures.views c.turn.new.pages c.turn.ensures.only c.turn.ensures.views (c.cat.ensures.few) c.requires.due.sound c.in-Err.ensures.cause.failed c.args.ledger.now c.turn.new.ledger c.turn.ensures.entered (let s = some_sound c.args.pages.now c.args.s c.requires.snap c.requires.due.sound in let r = c.requires.room in omega (arith, s, r))

pub returns-in-Err-clause-dues : goal.returns-in-Err-clause-dues
returns-in-Err-clause-dues g c = record { each = λ s due. c.push_copy.ensures.dues.each s ((c.turn.ensures.dues c.args.p).each s due) }
