use Rattle.plain_steps.proofs.AfterLemmas.{cut_copy, copies_are}
use Rattle.plain_steps.proofs.events.events_leave_the_copies.Goals as goal

pub returns-clause-cut : goal.returns-clause-cut
returns-clause-cut c = cut_copy

pub returns-clause-others : goal.returns-clause-others
returns-clause-others c = copies_are
