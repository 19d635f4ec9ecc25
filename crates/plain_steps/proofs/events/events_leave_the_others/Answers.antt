use Rattle.plain_steps.proofs.AfterLemmas.{others_are}
use Rattle.plain_steps.proofs.events.events_leave_the_others.Goals as goal

pub returns : goal.returns
returns c = others_are
