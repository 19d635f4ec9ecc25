use Rattle.step_trail.proofs.ExampleLemmas.{reading_walks, unlatched_not, unended_not, unfailed_not}
use Rattle.step_trail.proofs.law.an_example_is_a_trail.Goals as goal

pub returns-clause-reading : goal.returns-clause-reading
returns-clause-reading c = reading_walks

pub returns-clause-unlatched : goal.returns-clause-unlatched
returns-clause-unlatched c = unlatched_not

pub returns-clause-unended : goal.returns-clause-unended
returns-clause-unended c = unended_not

pub returns-clause-unfailed : goal.returns-clause-unfailed
returns-clause-unfailed c = unfailed_not
