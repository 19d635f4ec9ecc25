use Rattle.std.proofs.Common.{refl}
use Rattle.early_engine.proofs.PushLemmas.{turns_none}
use Rattle.early_engine.proofs.seeing.select_in.Goals as goal

pub returns-in-Err-clause-turns : goal.returns-in-Err-clause-turns
returns-in-Err-clause-turns g c = turns_none c.args.ledger.now c.args.pages.now c.args.pages.now refl refl
