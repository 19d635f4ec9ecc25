use Rattle.script_read.proofs.LawLemmas.{one_reading}
use Rattle.script_read.proofs.law.scripts_have_one_reading.Goals as goal

pub returns : goal.returns
returns c = one_reading
