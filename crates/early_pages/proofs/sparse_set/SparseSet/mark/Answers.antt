use Rattle.std.proofs.Common.{true, false, ap, sym, ◌∙◌, ◌<◌, get_or, subst}
use Rattle.page_base.specs.Pages.{shape}
use Rattle.page_base.proofs.PagesLemmas.{shape-with_page, page_or-with_page_same}
use Rattle.early_pages.specs.Sparse.{Sparse, HasSparse, is_copied, marked}
use Rattle.early_pages.proofs.MapLemmas.{has_page}
use Rattle.early_pages.proofs.sparse_set.SparseSet.mark.Goals as goal

pub invariant_of-self : goal.invariant_of-self
invariant_of-self g c = c.self.invariant ∙ sym (ap shape c.set.ensures ∙ shape-with_page c.self.inside.map c.args.p true)

pub returns-clause-here : goal.returns-clause-here
returns-clause-here g c =
    ap (λ (x : Sparse). is_copied (marked x c.args.p) c.args.p) (sym c.self.view_is) ∙ page_or-with_page_same c.self.inside.map c.args.p true false (has_page c.self.inside.map c.args.p (subst (λ ns. c.args.p.page < get_or ns c.args.p.file 0) c.self.invariant (subst (λ (x : Sparse). HasSparse x c.args.p) (sym c.self.view_is) c.requires)))
