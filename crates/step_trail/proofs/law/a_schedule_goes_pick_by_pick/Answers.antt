use Rattle.step_trail.proofs.ScheduleLemmas.{pick_begins, pick_goes_on, pick_ends, pick_stops, schedule_more, schedules_join}
use Rattle.step_trail.proofs.law.a_schedule_goes_pick_by_pick.Goals as goal

pub returns-clause-begins : goal.returns-clause-begins
returns-clause-begins c = pick_begins

pub returns-clause-goes_on : goal.returns-clause-goes_on
returns-clause-goes_on c = pick_goes_on

pub returns-clause-ends : goal.returns-clause-ends
returns-clause-ends c = pick_ends

pub returns-clause-stops : goal.returns-clause-stops
returns-clause-stops c = pick_stops

pub returns-clause-more : goal.returns-clause-more
returns-clause-more c = schedule_more

pub returns-clause-joined : goal.returns-clause-joined
returns-clause-joined c = schedules_join
