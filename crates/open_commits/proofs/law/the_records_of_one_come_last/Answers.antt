use Rattle.open_commits.proofs.ApartLemmas.{taken_out}
use Rattle.open_commits.proofs.law.the_records_of_one_come_last.Goals as goal

pub returns : goal.returns
returns c = taken_out
