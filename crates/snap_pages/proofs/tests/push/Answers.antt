-- Nothing becomes due at either step.
use Rattle.std.proofs.Common.{refl}
use Rattle.snap_pages.proofs.CallerLemmas.{dues_on}
use Rattle.snap_pages.proofs.tests.push.Goals as goal

pub returns-in-Ok-clause-dues : goal.returns-in-Ok-clause-dues
returns-in-Ok-clause-dues g c = dues_on c.args.pages.now c.push_copy.new.self c.push_mark.new.self c.args.p (c.push_copy.ensures.dues c.args.p) (c.push_mark.ensures.dues c.args.p)

pub returns-in-Err-clause-dues : goal.returns-in-Err-clause-dues
returns-in-Err-clause-dues g c = dues_on c.args.pages.now c.push_copy.new.self c.set_state.new.self c.args.p (c.push_copy.ensures.dues c.args.p) (c.set_state.ensures.dues c.args.p refl)
