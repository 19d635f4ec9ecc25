use Rattle.script_read.proofs.LawLemmas.{one_refusal}
use Rattle.script_read.proofs.law.scripts_have_one_refusal.Goals as goal

pub returns : goal.returns
returns c = one_refusal
