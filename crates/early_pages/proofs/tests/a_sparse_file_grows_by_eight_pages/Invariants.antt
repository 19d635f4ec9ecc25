use Rattle.std.proofs.Common.{◌≡◌, ◌∷◌, []}
use Rattle.early_pages.proofs.tests.a_sparse_file_grows_by_eight_pages.Given as goal

abbrev pub invariant-loop-page : goal.invariant-loop-page
invariant-loop-page g l = l.set.files.counts ≡ 16 ∷ []
