use Rattle.std.proofs.Common.{refl}
use Rattle.early_engine.proofs.PushLemmas.{turns_none}
use Rattle.early_engine.proofs.pushing.push_if_due.Goals as goal

pub returns-else-is_due-clause-turns : goal.returns-else-is_due-clause-turns
returns-else-is_due-clause-turns g c = turns_none c.args.ledger.now c.args.pages.now c.args.pages.now refl refl
