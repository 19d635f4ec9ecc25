-- What callers need of runs of several calls.
use Rattle.early_engine.specs.Safe.{Run}
use Rattle.early_engine.specs.Steps.{Goes}
use Rattle.early_engine.proofs.EndLemmas.{goes_on}

-- what two calls leave, one behind the other
pub goes_further : (a b c : Run) → Goes a b → Goes b c → Goes a c
goes_further a b c x y = goes_on a b c x y
