use Rattle.stmt_prog.proofs.ReadLemmas.{few_numbers}
use Rattle.stmt_prog.proofs.reading.number_for.Goals as goal

pub next_number-number-requires : goal.next_number-number-requires
next_number-number-requires c = few_numbers c.args.descs.now c.requires.each
