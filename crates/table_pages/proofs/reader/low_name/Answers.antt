-- The name that is kept is the one that the test says.
use Rattle.table_pages.proofs.NameLemmas.{kept_is}
use Rattle.table_pages.proofs.reader.low_name.Goals as goal

pub returns : goal.returns
returns c = kept_is c.args.bytes.now c.kept.result c.kept.ensures
