use Rattle.std.proofs.Common.{◌∙◌, List, ℕ, [], ap, sym, subst}
use Rattle.std.specs.FinMap as finite
use Rattle.std.proofs.lemmas.Result.{IfOk-weaker}
use Rattle.page_base.specs.declared.numbers.Mode.TheVariants.{S}
use Rattle.plain_model.specs.declared.reply.Reply.{Reply}
use Rattle.plain_model.specs.Tables.{Table}
use Rattle.early_pages.specs.Shown.{img}
use Rattle.stmt_eval.specs.Verdicts.{IsVerdict}
use Rattle.table_pages.specs.Carried.{Holds}
use Rattle.table_pages.specs.Layout.{place}
use Rattle.table_pages.specs.Rows.{HoldsFitting}
use Rattle.early_engine.specs.declared.answer.Answer.TheVariants.{UnderAll}
use Rattle.early_engine.specs.declared.decision.Decision.{Decision}
use Rattle.early_engine.proofs.ChangeLemmas.{rows_fit}
use Rattle.early_engine.proofs.Decisions.{change_none, change_refused, is_same}
use Rattle.early_engine.proofs.deciding.change_in_source.Goals as goal

pub returns-in_default : goal.returns-in_default
returns-in_default g c = λ opening seen setting.
    is_same opening opening.source c.args.pages.now seen c.args.stmt.now _ _ (c.only.ensures ∙ ap (λ (r : Reply). let d : Decision = record { answer = UnderAll S r; edits = [] } in d) c.refused.ensures)
    (change_none opening c.args.pages.now seen setting c.args.stmt.now c.requires.change (ap (finite.get seen.source) c.requires.named ∙ c.in_default.ensures.none seen.source setting.none.says))

pub returns-in-Refused : goal.returns-in-Refused
returns-in-Refused g c = λ opening seen setting.
    let v = c.args.pages.now in
    let stmt = c.args.stmt.now in
    let f = c.in-Some.ensures.found seen.source setting.none.says in
    let at = c.image.ensures ∙ ap (img v) c.place.ensures in
    let on = c.in_ok-message.ensures in
    let over_is = on.held c.args.name.now f.0 (subst (λ (x : List ℕ). Holds x c.args.name.now f.0) (sym at) f.1) in
    let shape = rw c.in-Refused.is at (subst (λ (t : Table). IsVerdict stmt t c.in_ok-message.field-0) over_is on.is) in
    is_same opening opening.source v seen stmt _ _ c.only-in-Refused.ensures
    (change_refused opening v seen setting stmt c.requires.change f.0 (ap (finite.get seen.source) c.requires.named ∙ f.2) c.in-Refused.message shape)

pub returns-in-Does : goal.returns-in-Does
returns-in-Does g c = IfOk-weaker c.change_rows.result _ _ (λ d h opening seen setting.
    let v = c.args.pages.now in
    let stmt = c.args.stmt.now in
    let f = c.in-Some.ensures.found seen.source setting.none.says in
    let at = c.image.ensures ∙ ap (img v) c.place.ensures in
    let on = c.in_ok-message.ensures in
    let over_is = on.held c.args.name.now f.0 (subst (λ (x : List ℕ). Holds x c.args.name.now f.0) (sym at) f.1) in
    let does = rw c.in-Does.is at (subst (λ (t : Table). IsVerdict stmt t c.in_ok-message.field-0) over_is on.is) in
    let fits = rows_fit stmt (img v (place c.in-Some.i)) c.args.name.now f.0 c.in-Does.effect c.requires.sound f.1 (subst HoldsFitting over_is on.fits) does in
    h opening seen stmt f.0 setting c.requires.change c.requires.named f.1 f.2 does fits) c.change_rows.ensures
