use Rattle.script_read.proofs.LawLemmas.{as_written}
use Rattle.script_read.proofs.law.picks_are_read_as_written.Goals as goal

pub returns : goal.returns
returns c = as_written
