use Rattle.std.proofs.Common.{◌∙◌, [], ap}
use Rattle.std.proofs.lemmas.Result.{IfOk-weaker}
use Rattle.page_base.specs.declared.numbers.Mode.TheVariants.{X}
use Rattle.plain_model.specs.declared.stmt.Stmt.TheVariants.{CreateTable}
use Rattle.early_engine.specs.declared.answer.Answer.TheVariants.{UnderAll}
use Rattle.early_engine.proofs.Decisions.{create_taken, create_full, create_made, is_same}
use Rattle.early_engine.proofs.deciding.create_in_source.Goals as goal

pub returns-in-Some : goal.returns-in-Some
returns-in-Some g c = λ opening seen setting.
    let f = c.in-Some.ensures.found seen.source setting.none.says in
    is_same opening opening.source c.args.pages.now seen (CreateTable c.args.name.now c.args.cols.now) _ _ (c.only.ensures ∙ ap (λ r. record { answer = UnderAll X r; edits = [] }) c.refused.ensures)
    (create_taken opening c.args.pages.now seen setting c.args.name.now c.args.cols.now c.requires.definition f.0 f.2)

pub returns-in-Some-2 : goal.returns-in-Some-2
returns-in-Some-2 g c = IfOk-weaker c.with_edit.result _ _ (λ d is opening seen setting.
    let absent = c.in_default.ensures.none seen.source setting.none.says in
    let plan = (rw c.in-Some-2.is at c.in_ok-edit.ensures.some) seen.source setting.none.says absent in
    is_same opening opening.source c.args.pages.now seen (CreateTable c.args.name.now c.args.cols.now) _ _ is
    (create_made opening c.args.pages.now seen setting c.args.name.now c.args.cols.now c.requires.definition c.in-Some-2.edit absent (rw c.in-Some-2.is at c.in_ok-edit.ensures.none) plan)) c.with_edit.ensures

pub returns-in-None : goal.returns-in-None
returns-in-None g c = λ opening seen setting.
    is_same opening opening.source c.args.pages.now seen (CreateTable c.args.name.now c.args.cols.now) _ _ (c.only-in-None.ensures ∙ ap (λ r. record { answer = UnderAll X r; edits = [] }) c.refused-in-None.ensures)
    (create_full opening c.args.pages.now seen setting c.args.name.now c.args.cols.now c.requires.definition (c.in_default.ensures.none seen.source setting.none.says) (rw c.in-None.is at c.in_ok-edit.ensures.none))
