use Rattle.std.proofs.Common.{◌∙◌, arith}
use Rattle.page_fmt.proofs.PlaceLemmas.{page_size, page_count}
use Rattle.page_fmt.proofs.editing.slot_count.Goals as goal

pub number-requires : goal.number-requires
number-requires c = omega (arith, page_size c.args.page.now c.requires)

pub returns-clause-count : goal.returns-clause-count
returns-clause-count c = c.number.ensures ∙ page_count c.args.page.now c.requires

pub returns-clause-few : goal.returns-clause-few
returns-clause-few c = omega (arith, c.number.ensures, page_count c.args.page.now c.requires, c.requires.small)

pub returns-clause-size : goal.returns-clause-size
returns-clause-size c = page_size c.args.page.now c.requires
