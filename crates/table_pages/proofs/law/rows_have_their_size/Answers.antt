use Rattle.table_pages.proofs.SizeLemmas.{row_sized}
use Rattle.table_pages.proofs.law.rows_have_their_size.Goals as goal

pub returns : goal.returns
returns c = row_sized
