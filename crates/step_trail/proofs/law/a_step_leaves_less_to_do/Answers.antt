use Rattle.step_trail.proofs.LowerLemmas.{lowers_by_saying, lowers_by_planning, lowers_by_stepping}
use Rattle.step_trail.proofs.PlaceLemmas.{lowers_in_place}
use Rattle.step_trail.proofs.law.a_step_leaves_less_to_do.Goals as goal

pub returns-clause-saying : goal.returns-clause-saying
returns-clause-saying c = lowers_by_saying

pub returns-clause-planning : goal.returns-clause-planning
returns-clause-planning c = lowers_by_planning

pub returns-clause-stepping : goal.returns-clause-stepping
returns-clause-stepping c = lowers_by_stepping

pub returns-clause-in_place : goal.returns-clause-in_place
returns-clause-in_place c = lowers_in_place
