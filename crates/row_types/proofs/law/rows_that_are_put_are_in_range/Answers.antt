use Rattle.row_types.proofs.PutLemmas.{puts_what_is_held}
use Rattle.row_types.proofs.law.rows_that_are_put_are_in_range.Goals as goal

pub returns : goal.returns
returns c = puts_what_is_held
