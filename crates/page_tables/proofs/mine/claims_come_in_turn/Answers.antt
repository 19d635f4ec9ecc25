use Rattle.page_tables.proofs.GoLemmas.{claims_are, claimable_first, claimable_before}
use Rattle.page_tables.proofs.mine.claims_come_in_turn.Goals as goal

pub returns-clause-none : goal.returns-clause-none
returns-clause-none c = claimable_first

pub returns-clause-more : goal.returns-clause-more
returns-clause-more c = claimable_before

pub returns-clause-all : goal.returns-clause-all
returns-clause-all c = claims_are
