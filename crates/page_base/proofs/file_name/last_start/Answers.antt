use Rattle.std.proofs.Common.{sym, ◌∙◌}
use Rattle.page_base.proofs.LastPart.{behind_separator, behind_other}
use Rattle.page_base.proofs.file_name.last_start.Goals as goal
use Rattle.page_base.proofs.file_name.last_start.Goals.{then-is_separator, else-is_separator}

pub loop-i-preserved : goal.loop-i-preserved
loop-i-preserved c =
    elim c.if-is_separator.branch [
      | then-is_separator w ↦ rw w.start-is (behind_separator _ _ _ c.loop-i-test.true (sym c.is_separator.ensures ∙ w.if-is_separator.true) c.loop-i.invariant)
      | else-is_separator w ↦ rw w.start-is (behind_other _ _ _ c.loop-i-test.true (sym c.is_separator.ensures ∙ w.if-is_separator.false) c.loop-i.invariant)
    ]
