use Rattle.std.proofs.Common.{rules}
use Rattle.page_base.specs.Pages.{page_or}
use Rattle.sparse_set.specs.Groups.{marked_in}
use Rattle.sparse_set.proofs.sparse_files.SparseSet.copied.Goals as goal

pub returns-in-Some : goal.returns-in-Some
unfolding page_or marked_in
returns-in-Some g c = search rules

pub returns-in-None : goal.returns-in-None
unfolding page_or
returns-in-None g c = search rules
