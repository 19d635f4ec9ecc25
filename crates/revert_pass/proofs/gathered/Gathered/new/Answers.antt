-- No page is kept twice where none is.
use Rattle.std.proofs.Common.{sym, subst}
use Rattle.revert_pass.specs.Got.{Got, IsGot}
use Rattle.revert_pass.proofs.GotLemmas.{got_none}
use Rattle.revert_pass.proofs.gathered.Gathered.new.Goals as goal

pub invariant_of-result : goal.invariant_of-result
invariant_of-result c = subst (λ (x : Got). IsGot x) (sym c.new.ensures.items) got_none
