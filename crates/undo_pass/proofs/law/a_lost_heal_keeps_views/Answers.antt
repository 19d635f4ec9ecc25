-- The snapshot that is suspect is promised nothing.
use Rattle.undo_pass.proofs.LostLemmas.{lost_keeps}
use Rattle.undo_pass.proofs.law.a_lost_heal_keeps_views.Goals as goal

pub returns : goal.returns
returns c = λ s old mid new has un is. lost_keeps s old mid new has un is
