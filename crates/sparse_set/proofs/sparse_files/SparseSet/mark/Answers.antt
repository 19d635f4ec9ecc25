use Rattle.std.proofs.Common.{◌≡◌, Bool, true, false, ap, sym, ◌∙◌, subst}
use Rattle.page_base.specs.Pages.{HasPage, Pages, shape}
use Rattle.page_base.proofs.PagesLemmas.{shape-with_page, page_or-with_page_same}
use Rattle.sparse_set.specs.Sparse.{Sparse, HasSparse, is_copied, marked}
use Rattle.sparse_set.proofs.MapLemmas.{has_place, row_marked}
use Rattle.sparse_set.proofs.sparse_files.SparseSet.mark.Goals as goal

pub invariant_of-self : goal.invariant_of-self
invariant_of-self g c =
    let set : Sparse = record { files = c.self.inside.files; map = c.self.inside.maps.items } in
    let e : set ≡ c.args.self.now = c.self.view_is in
    let there : HasPage set.map c.args.p = has_place set c.args.p c.self.invariant (subst (λ (x : Sparse). HasSparse x c.args.p) (sym e) c.requires) in
    c.self.invariant ∙ sym (ap shape (row_marked set.map c.args.p c.index_mut-map.result.now c.set.new.self there c.index_mut-map.ensures.value c.set.ensures) ∙ shape-with_page set.map c.args.p true)

pub returns-clause-marked : goal.returns-clause-marked
returns-clause-marked g c =
    let set : Sparse = record { files = c.self.inside.files; map = c.self.inside.maps.items } in
    let e : set ≡ c.args.self.now = c.self.view_is in
    let there : HasPage set.map c.args.p = has_place set c.args.p c.self.invariant (subst (λ (x : Sparse). HasSparse x c.args.p) (sym e) c.requires) in
    let as_set : Pages Bool → Sparse = λ map. record { files = c.self.inside.files; map = map } in
    ap as_set (row_marked set.map c.args.p c.index_mut-map.result.now c.set.new.self there c.index_mut-map.ensures.value c.set.ensures) ∙ ap (λ (x : Sparse). marked x c.args.p) e

pub returns-clause-here : goal.returns-clause-here
returns-clause-here g c =
    let set : Sparse = record { files = c.self.inside.files; map = c.self.inside.maps.items } in
    let e : set ≡ c.args.self.now = c.self.view_is in
    let there : HasPage set.map c.args.p = has_place set c.args.p c.self.invariant (subst (λ (x : Sparse). HasSparse x c.args.p) (sym e) c.requires) in
    ap (λ (x : Sparse). is_copied (marked x c.args.p) c.args.p) (sym e) ∙ page_or-with_page_same set.map c.args.p true false there
