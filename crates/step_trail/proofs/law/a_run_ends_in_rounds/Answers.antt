use Rattle.step_trail.proofs.RoundLemmas.{round_begins, round_goes_on, round_ends, rounds_more, entries_more, rounds_end}
use Rattle.step_trail.proofs.law.a_run_ends_in_rounds.Goals as goal

pub returns-clause-begins : goal.returns-clause-begins
returns-clause-begins c = round_begins

pub returns-clause-goes_on : goal.returns-clause-goes_on
returns-clause-goes_on c = round_goes_on

pub returns-clause-ends : goal.returns-clause-ends
returns-clause-ends c = round_ends

pub returns-clause-more : goal.returns-clause-more
returns-clause-more c = rounds_more

pub returns-clause-entries : goal.returns-clause-entries
returns-clause-entries c = entries_more

pub returns-clause-over : goal.returns-clause-over
returns-clause-over c = rounds_end
