-- All pins stay.
use Rattle.std.proofs.Common.{◌∙◌}
use Rattle.snap_pages.proofs.tests.touched.Goals as goal

pub returns-clause-free : goal.returns-clause-free
returns-clause-free c = λ p. (λ i. c.touch.ensures.pins i p) ∙ c.requires.free p
