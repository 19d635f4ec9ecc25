use Rattle.std.proofs.Common.{◌≡◌, ◌∙◌, sym, subst}
use Rattle.std.specs.Prelude.{Some}
use Rattle.plain_model.specs.Meaning.{shape}
use Rattle.table_walk.proofs.Exits.{handed_on}
use Rattle.stmt_prog.specs.declared.refusal.Refusal.{Refusal}
use Rattle.stmt_prog.specs.Reading.{OfBases}
use Rattle.stmt_prog.specs.Refusing.{IfSaid}
use Rattle.stmt_prog.proofs.ReadLemmas.{said_again, named_is, lacks_is, taken_is, number_is}
use Rattle.stmt_prog.proofs.reading.lacking.Goals as goal

pub returns-in_err-descs-clause-refused : goal.returns-in_err-descs-clause-refused
returns-in_err-descs-clause-refused c =
    let e : Refusal = c.in_err-descs.field-0.0 in
    handed_on (IfSaid (λ m. OfBases c.args.zero.now (λ ds tables. shape c.args.stmt.now tables ≡ Some m))) c.from_residual.result e c.from_residual.ensures.1
    (said_again (λ m. OfBases c.args.zero.now (λ ds tables. ⊥)) (λ m. OfBases c.args.zero.now (λ ds tables. shape c.args.stmt.now tables ≡ Some m)) e (λ m none. λ files at ds tables b shows. absurd (none files at ds tables b shows)) c.in_err-descs.ensures.damaged)

pub returns-in-Some-clause-refused : goal.returns-in-Some-clause-refused
returns-in-Some-clause-refused c =
    let named = named_is c.args.stmt.now c.args.name.now c.as_slice.result.now c.in_ok-descs.descs c.in_ok-named.field-0 c.in_ok-named.ensures c.as_slice.ensures c.requires.name in
    subst (IfSaid (λ m. OfBases c.args.zero.now (λ ds tables. shape c.args.stmt.now tables ≡ Some m))) (sym c.refused.ensures)
    (taken_is c.args.stmt.now c.in_ok-descs.descs c.args.zero.now c.in-Some.field-0 c.in_ok-descs.ensures.are (named ∙ c.in-Some.is) c.requires.creates)

pub returns-clause-found : goal.returns-clause-found
returns-clause-found c =
    let named = named_is c.args.stmt.now c.args.name.now c.as_slice.result.now c.in_ok-descs.descs c.in_ok-named.field-0 c.in_ok-named.ensures c.as_slice.ensures c.requires.name in
    lacks_is c.args.stmt.now c.in_ok-descs.descs c.args.zero.now c.in_ok-descs.ensures.are (named ∙ c.in-None.is) c.requires.creates

pub returns-clause-new : goal.returns-clause-new
returns-clause-new c = number_is c.in_ok-descs.descs c.args.zero.now c.in_ok-number_for-in-None.field-0.0 c.in_ok-descs.ensures.are c.in_ok-number_for-in-None.ensures.new
