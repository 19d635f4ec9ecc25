use Rattle.early_engine.proofs.SelectLemmas.{if_ok_more}
use Rattle.early_engine.proofs.verdicts.verdict_on.Goals as goal

pub returns : goal.returns
returns c = if_ok_more c.verdict_of.result c.verdict_of.ensures (λ verdict h. record {
  over = c.in_ok-read_table.field-0;
  held = c.in_ok-read_table.ensures.table;
  fits = c.in_ok-read_table.ensures.fits;
  is = h c.in_ok-read_table.field-0 c.in_ok-cols.ensures;
})
