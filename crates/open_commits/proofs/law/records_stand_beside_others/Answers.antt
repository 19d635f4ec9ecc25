use Rattle.open_commits.proofs.StandLemmas.{stand_beside, stand_without, names_part}
use Rattle.open_commits.proofs.WithinLemmas.{lie_back}
use Rattle.open_commits.proofs.law.records_stand_beside_others.Goals as goal

pub returns-clause-lie : goal.returns-clause-lie
returns-clause-lie c = lie_back

pub returns-clause-stand : goal.returns-clause-stand
returns-clause-stand c = stand_beside

pub returns-clause-apart : goal.returns-clause-apart
returns-clause-apart c = names_part

pub returns-clause-without : goal.returns-clause-without
returns-clause-without c = stand_without
