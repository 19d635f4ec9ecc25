use Rattle.std.proofs.Common.{◌≡◌, true, false, ap, sym, ◌∙◌}
use Rattle.early_pages.specs.Sparse.{Sparse, is_copied}
use Rattle.early_pages.proofs.MapLemmas.{page_past}
use Rattle.early_pages.proofs.sparse_set.SparseSet.copied.Goals as goal

pub returns-else-has : goal.returns-else-has
returns-else-has g c =
    c.if-has.false ∙ sym (page_past c.self.inside.map c.args.p false (λ h. true_not_false (sym (c.has.ensures.1 h) ∙ c.if-has.false)))
    ∙ ap (λ (x : Sparse). is_copied x c.args.p) c.self.view_is
  where
    true_not_false : true ≡ false → ⊥
    true_not_false e = cc
