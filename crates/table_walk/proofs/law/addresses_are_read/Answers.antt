use Rattle.table_walk.proofs.AddressLemmas.{page_at-address}
use Rattle.table_walk.proofs.law.addresses_are_read.Goals as goal

pub returns : goal.returns
returns c = page_at-address
