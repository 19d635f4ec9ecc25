use Rattle.std.proofs.Common.{◌≡◌, ◌∙◌, List, ℕ, [], ap, sym, subst}
use Rattle.std.specs.Prelude.{Some, None}
use Rattle.std.specs.FinMap as finite
use Rattle.page_base.specs.declared.numbers.Mode.TheVariants.{S}
use Rattle.plain_model.specs.declared.reply.Reply.{Reply}
use Rattle.plain_model.specs.declared.reply.Reply.TheVariants.{Msg}
use Rattle.plain_model.specs.declared.reply.TheConstants.Message.{NO_TABLE}
use Rattle.plain_model.specs.Messages.{plain}
use Rattle.plain_model.specs.Statements.{shape_over, data_over}
use Rattle.plain_model.specs.Tables.{Table, Change}
use Rattle.early_pages.specs.Shown.{img}
use Rattle.stmt_eval.specs.declared.effect.Verdict.{Verdict}
use Rattle.stmt_eval.specs.Verdicts.{IsVerdict}
use Rattle.table_pages.specs.Carried.{Holds}
use Rattle.early_engine.specs.declared.answer.Answer.{Answer}
use Rattle.early_engine.specs.declared.answer.Answer.TheVariants.{UnderAll, UnderTable}
use Rattle.early_engine.specs.declared.decision.Decision.{Decision}
use Rattle.early_engine.specs.Deciding.{IsDecision}
use Rattle.early_engine.proofs.Decisions.{select_none, select_refused, select_does, is_same}
use Rattle.early_engine.proofs.SelectLemmas.{as_select}
use Rattle.early_engine.proofs.deciding.select_in_source.Goals as goal
use Rattle.early_engine.proofs.deciding.select_in_source.Goals.{in-Refused, in-Does}

pub returns-in_default : goal.returns-in_default
returns-in_default g c = λ opening seen setting.
    let h = c.requires.select in
    is_same opening opening.source c.args.pages.now seen c.args.stmt.now _ _ (c.only.ensures ∙ ap (λ (r : Reply). let d : Decision = record { answer = UnderAll S r; edits = [] } in d) c.refused.ensures)
    (as_select (λ stmt name. finite.get seen.source name ≡ None → IsDecision opening opening.source c.args.pages.now seen stmt (record { answer = UnderAll S (Msg (plain NO_TABLE)); edits = [] })) c.args.stmt.now c.args.name.now h
    (select_none opening c.args.pages.now seen setting h.select) (c.in_default.ensures.none seen.source setting.none.says))

pub returns : goal.returns
returns g c = λ opening seen setting.
    let h = c.requires.select in
    let f = c.in-Some.ensures.found seen.source setting.none.says in
    let at = c.image.ensures ∙ ap (img c.args.pages.now) c.place.ensures in
    let on = c.in_ok-message.ensures in
    let over_is = on.held c.args.name.now f.0 (subst (λ (x : List ℕ). Holds x c.args.name.now f.0) (sym at) f.1) in
    let verdict = subst (λ (t : Table). IsVerdict c.args.stmt.now t c.in_ok-message.field-0) over_is on.is in
    elim c.match-branch-2.branch [
      | in-Refused w ↦
          let shape = subst (λ (v : Verdict). IsVerdict c.args.stmt.now f.0 v) w.in-Refused.is verdict in
          is_same opening opening.source c.args.pages.now seen c.args.stmt.now _ _ (c.only-2.ensures ∙ ap (λ (a : Answer). let d : Decision = record { answer = a; edits = [] } in d) w.answer-is)
          (as_select (λ stmt name. finite.get seen.source name ≡ Some f.0 → shape_over stmt (Some f.0) ≡ Some w.in-Refused.message → IsDecision opening opening.source c.args.pages.now seen stmt (record { answer = UnderAll S (Msg w.in-Refused.message); edits = [] }))
          c.args.stmt.now c.args.name.now h (λ there e. select_refused opening c.args.pages.now seen setting h.select f.0 there w.in-Refused.message e) f.2 shape)
      | in-Does w ↦
          let does = subst (λ (v : Verdict). IsVerdict c.args.stmt.now f.0 v) w.in-Does.is verdict in
          is_same opening opening.source c.args.pages.now seen c.args.stmt.now _ _ (c.only-2.ensures ∙ ap (λ (a : Answer). let d : Decision = record { answer = a; edits = [] } in d) w.answer-is)
          (as_select (λ stmt name. finite.get seen.source name ≡ Some f.0 → shape_over stmt (Some f.0) ≡ None → (data_over stmt f.0).1 ≡ w.in-Does.effect.reply → IsDecision opening opening.source c.args.pages.now seen stmt (record { answer = UnderTable name S w.in-Does.effect.reply; edits = [] }))
          c.args.stmt.now c.args.name.now h (λ there e is. select_does opening c.args.pages.now seen setting h.select f.0 there w.in-Does.effect.reply e is) f.2 does.0 (ap (λ (r : List Change × Reply). r.1) does.1))
    ]
