use Rattle.step_trail.proofs.RoseLemmas.{risen_is, is_risen, named_rose, rose_named}
use Rattle.step_trail.proofs.law.what_rose_is_named.Goals as goal

pub returns-clause-counts : goal.returns-clause-counts
returns-clause-counts c = λ before now. (risen_is before now, is_risen before now)

pub returns-clause-snaps : goal.returns-clause-snaps
returns-clause-snaps c = λ before now name. (named_rose before now name, rose_named before now name)
