use Rattle.page_tables.proofs.BaseLemmas.{claimable_free}
use Rattle.page_tables.proofs.coming.claimable_pages_are_free.Goals as goal

pub returns : goal.returns
returns c = claimable_free
