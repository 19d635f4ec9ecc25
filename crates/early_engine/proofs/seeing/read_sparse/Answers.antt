use Rattle.std.proofs.Common.{arith}
use Rattle.early_engine.proofs.PushLemmas.{some_sound, pushes_used, turns_used, pushes_turned, turns_turned}
use Rattle.early_engine.proofs.seeing.read_sparse.Goals as goal

pub turn-requires-clause-room : goal.turn-requires-clause-room
turn-requires-clause-room g c = let s = some_sound c.args.pages.now c.args.s c.requires.snap c.requires.sound in let r = c.requires.room in omega (arith, s, r)

pub returns-in-Ok-clause-pushes : goal.returns-in-Ok-clause-pushes
returns-in-Ok-clause-pushes g c = pushes_used c.args.pages.now c.fetch_sparse.new.self c.args.s c.args.p c.fetch_sparse.result c.requires.snap c.fetch_sparse.ensures.reads.uses c.fetch_sparse.ensures.only c.fetch_sparse.ensures.views

pub returns-in-Ok-clause-turns : goal.returns-in-Ok-clause-turns
returns-in-Ok-clause-turns g c = turns_used c.args.pages.now c.fetch_sparse.new.self c.args.s c.args.p c.fetch_sparse.result c.requires.snap c.fetch_sparse.ensures.reads.uses c.fetch_sparse.ensures.only c.fetch_sparse.ensures.views c.args.ledger.now

pub returns-in-Err-clause-pushes : goal.returns-in-Err-clause-pushes
returns-in-Err-clause-pushes g c = pushes_turned c.args.pages.now c.fetch_sparse.new.self c.args.s c.args.p c.fetch_sparse.result c.requires.snap c.fetch_sparse.ensures.reads.uses c.fetch_sparse.ensures.only c.fetch_sparse.ensures.views
    c.turn.new.pages c.turn.ensures.only c.turn.ensures.views c.cat.ensures.few c.requires.sound c.in-Err.ensures.cause.failed

pub returns-in-Err-clause-turns : goal.returns-in-Err-clause-turns
returns-in-Err-clause-turns g c = turns_turned c.args.pages.now c.fetch_sparse.new.self c.args.s c.args.p c.fetch_sparse.result c.requires.snap c.fetch_sparse.ensures.reads.uses c.fetch_sparse.ensures.only c.fetch_sparse.ensures.views
    c.turn.new.pages c.turn.ensures.only c.turn.ensures.views c.cat.ensures.few c.requires.sound c.in-Err.ensures.cause.failed c.args.ledger.now c.turn.new.ledger c.turn.ensures.entered
    (let s = some_sound c.args.pages.now c.args.s c.requires.snap c.requires.sound in let r = c.requires.room in omega (arith, s, r))
