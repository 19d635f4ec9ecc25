use Rattle.std.proofs.Common.{◌≡◌, ◌∷◌, []}
use Rattle.sparse_set.proofs.tests.pages_are_bits_of_words.Given as goal

abbrev pub invariant-loop-page : goal.invariant-loop-page
invariant-loop-page g l = l.set.files.counts ≡ 72 ∷ []
