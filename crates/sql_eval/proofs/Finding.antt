-- The first element of two lists put together that passes a test.
use Rattle.std.proofs.Common.{◌≡◌, List, ◌++◌, Bool}
use Rattle.std.specs.Prelude.{find}
use Rattle.std.specs.Option.{option_or}
use Rattle.std.proofs.lemmas.List.Folds as folds

-- it is the first of the one list, or of the other
pub find_append : {X : Type 0} (p : X → Bool) (xs ys : List X) → find p (xs ++ ys) ≡ option_or (find p xs) (find p ys)
find_append p xs ys = folds.find-append p xs ys
