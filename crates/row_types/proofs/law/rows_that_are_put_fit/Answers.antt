use Rattle.row_types.proofs.PutLemmas.{puts_what_fits}
use Rattle.row_types.proofs.law.rows_that_are_put_fit.Goals as goal

pub returns : goal.returns
returns c = puts_what_fits
