use Rattle.std.proofs.Common.{◌∙◌, List, ℕ, [], ap, sym, subst}
use Rattle.page_base.specs.declared.numbers.Mode.TheVariants.{X}
use Rattle.early_pages.specs.Shown.{img}
use Rattle.table_pages.specs.Carried.{Holds}
use Rattle.early_engine.specs.declared.answer.Answer.TheVariants.{UnderTable}
use Rattle.early_engine.proofs.Decisions.{change_made, change_full, is_same}
use Rattle.early_engine.proofs.deciding.change_rows.Goals as goal

pub returns-in-Some : goal.returns-in-Some
returns-in-Some g c = λ opening seen stmt t setting change named holds there does fits.
    let v = c.args.pages.now in
    let at = c.image.ensures ∙ ap (img v) c.place.ensures in
    let cols = c.in_ok-cols.ensures c.args.name t (subst (λ (x : List ℕ). Holds x c.args.name t) (sym at) holds) in
    let plan = rw c.in-Some.is at (c.in_ok-edits.ensures c.args.name t holds cols fits) in
    change_made opening v seen setting stmt change c.args.name named t there c.args.effect does c.args.i c.requires.there holds c.in-Some.edits plan

pub returns-in-None : goal.returns-in-None
returns-in-None g c = λ opening seen stmt t setting change named holds there does fits.
    let v = c.args.pages.now in
    let at = c.image.ensures ∙ ap (img v) c.place.ensures in
    let cols = c.in_ok-cols.ensures c.args.name t (subst (λ (x : List ℕ). Holds x c.args.name t) (sym at) holds) in
    let plan = rw c.in-None.is at (c.in_ok-edits.ensures c.args.name t holds cols fits) in
    is_same opening opening.source v seen stmt _ _ (c.only.ensures ∙ ap (λ r. record { answer = UnderTable c.args.name X r; edits = [] }) c.refused.ensures)
    (change_full opening v seen setting stmt change c.args.name named t there c.args.effect does c.args.i c.requires.there holds plan)
