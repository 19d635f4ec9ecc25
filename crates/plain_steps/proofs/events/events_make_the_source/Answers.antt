use Rattle.plain_steps.proofs.AfterLemmas.{source_is, sights_are, own_sight}
use Rattle.plain_steps.proofs.events.events_make_the_source.Goals as goal

pub returns-clause-source : goal.returns-clause-source
returns-clause-source c = source_is

pub returns-clause-others : goal.returns-clause-others
returns-clause-others c = sights_are

pub returns-clause-own : goal.returns-clause-own
returns-clause-own c = own_sight
