use Rattle.std.proofs.Common.{◌≡◌, [], List, ℕ, get_or, ap, sym, ◌∙◌, arith}
use Rattle.early_pages.specs.Catalog.{Catalog, snap_at}
use Rattle.early_pages.specs.Sparse.{Sparse}
use Rattle.early_engine.specs.Closing.{file_of, first}
use Rattle.early_engine.proofs.CloseLemmas.{one_long, puts_set}
use Rattle.early_engine.proofs.closing.put_first.Goals as goal

pub remove-requires-2 : goal.remove-requires-2
remove-requires-2 g c =
    let shown = c.into_vec-files.ensures ∙ c.into_files.ensures ∙ ap (λ (s : Sparse). s.files) c.remove.ensures.set in
    let l = one_long g.V.Pages.PageFile.tells g.V.Pages.PageFile.content g.V.Pages.PageFile.count g.V.Pages.PageFile.failures g.V.Pages.PageFile.calls c.into_vec-files.result.items _ shown _ (c.cat.ensures.alike first c.requires.some ∙ c.requires.file) in
    let ok = c.into_vec-files.result.ok.0 in
    omega (arith, l, ok)

pub returns-clause-puts : goal.returns-clause-puts
returns-clause-puts g c =
    let shown = c.into_vec-files.ensures ∙ c.into_files.ensures ∙ ap (λ (s : Sparse). s.files) c.remove.ensures.set in
    let named : c.at-name.result.now ≡ file_of c.args.pages.now first =
    sym (c.at-name.ensures.value []) ∙ ap (λ (l : List (List ℕ)). get_or l 0 []) (c.files.ensures ∙ ap (λ (cat : Catalog). (snap_at cat first).files) c.cat.ensures.cat) in
    puts_set g.V.Pages.PageFile.tells g.V.Pages.PageFile.content g.V.Pages.PageFile.count g.V.Pages.PageFile.failures g.V.Pages.PageFile.calls c.into_vec-files.result.items _ shown _ (c.cat.ensures.alike first c.requires.some ∙ c.requires.file)
    c.remove-2.result c.remove-2.ensures.value _ c.at-name.result.now named _ _ c.put_file.result c.put_file.ensures
