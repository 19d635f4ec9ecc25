use Rattle.std.proofs.Common.{◌≡◌, ℕ, [], List, get_or, ap, sym, ◌∙◌, subst}
use Rattle.std.specs.Prelude.{IfSome, OnOk}
use Rattle.page_fmt.specs.Seen.{Looked, place_of, look}
use Rattle.page_fmt.proofs.SeenLemmas.{look-place}
use Rattle.table_walk.specs.declared.plan.Spot.TheVariants.{Old}
use Rattle.table_walk.specs.Differences.{AddsPage}
use Rattle.stmt_prog.proofs.dropping.empty_page.Goals as goal

pub returns : goal.returns
returns c =
    let d : Looked = record { page = record { file = 0; page = 0 }; slots = [] } in
    let i = c.unwrap-i.result in
    let own = c.args.own.now in
    let at : i ≡ place_of own c.args.page = subst (λ o. IfSome o (λ (j : ℕ). j ≡ place_of own c.args.page)) c.unwrap-i.ensures c.place.ensures.some in
    let same : c.as_slice.result.now ≡ look own c.args.page = c.as_slice.ensures.value ∙ c.in_ok-old.ensures.are d ∙ ap (λ j. (get_or own j d).slots) at ∙ sym (look-place own c.args.page d c.requires.saw) in
    subst (λ (xs : List (List ℕ)). OnOk c.add_differences.result (AddsPage (Old c.args.page) xs [] c.args.edits.now c.add_differences.new.edits)) same c.add_differences.ensures
