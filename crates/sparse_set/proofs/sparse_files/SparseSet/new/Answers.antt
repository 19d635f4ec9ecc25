use Rattle.std.proofs.Common.{false, ap, sym, ◌∙◌}
use Rattle.page_base.specs.Pages.{shape, page_or}
use Rattle.sparse_set.proofs.MapLemmas.{page_or-filled, shape-filled}
use Rattle.sparse_set.proofs.sparse_files.SparseSet.new.Goals as goal

pub invariant_of-result : goal.invariant_of-result
invariant_of-result g c = sym (ap shape c.in-Ok.ensures ∙ shape-filled c.args.files.counts false)

pub returns-in-Ok-clause-empty : goal.returns-in-Ok-clause-empty
returns-in-Ok-clause-empty g c p = ap (λ map. page_or map p false) c.in-Ok.ensures ∙ page_or-filled c.args.files.counts p false
