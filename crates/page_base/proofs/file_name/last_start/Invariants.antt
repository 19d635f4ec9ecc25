use Rattle.page_base.proofs.LastPart.{Behind}
use Rattle.page_base.proofs.file_name.last_start.Given as goal

abbrev pub invariant-loop-i : goal.invariant-loop-i
invariant-loop-i l = Behind l.path l.i l.start
