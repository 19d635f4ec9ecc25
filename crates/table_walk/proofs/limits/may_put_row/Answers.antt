use Rattle.row_fmt.proofs.RowLemmas.{length-fits}
use Rattle.table_walk.proofs.limits.may_put_row.Goals as goal

pub key_size-requires : goal.key_size-requires
key_size-requires c = length-fits c.args.cols.now c.args.row.now (c.fits.ensures.0 c.if-not-fits.false)
