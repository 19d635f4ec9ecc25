use Rattle.std.proofs.Common.{sym, ◌∙◌}
use Rattle.script_read.proofs.Whole.{skip_more}
use Rattle.script_read.proofs.script.skip_front.Goals as goal

pub loop-line-preserved : goal.loop-line-preserved
loop-line-preserved c = rw (c.advance.ensures.left, c.advance.ensures.line) (skip_more _ _ _ _ _ c.in-Some.line.now c.loop-line.invariant c.in-Some.ensures (sym c.is_front.ensures ∙ c.if-not-is_front.false))
