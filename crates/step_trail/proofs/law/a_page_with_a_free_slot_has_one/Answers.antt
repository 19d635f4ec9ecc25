use Rattle.step_trail.proofs.NextLemmas.{free_there, there_free}
use Rattle.step_trail.proofs.law.a_page_with_a_free_slot_has_one.Goals as goal

pub returns : goal.returns
returns c = λ slots. (free_there slots, there_free slots)
