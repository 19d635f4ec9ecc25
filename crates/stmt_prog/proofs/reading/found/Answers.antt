use Rattle.std.proofs.Common.{◌≡◌, ◌∙◌, sym, subst}
use Rattle.std.specs.Prelude.{Some, None, Option}
use Rattle.plain_model.specs.Meaning.{shape}
use Rattle.plain_model.specs.Statements.{shape_over}
use Rattle.plain_model.specs.Tables.{Table}
use Rattle.sys_cat.specs.declared.desc.TableDesc.{TableDesc}
use Rattle.table_walk.proofs.Exits.{handed_on, if_ok, if_err}
use Rattle.stmt_prog.specs.declared.refusal.Refusal.{Refusal}
use Rattle.stmt_prog.specs.Reading.{HasCols, OfBases}
use Rattle.stmt_prog.specs.Refusing.{IfSaid}
use Rattle.stmt_prog.proofs.ReadLemmas.{said_again, named_is, table_is, found_is, shape_is, ok_both}
use Rattle.stmt_prog.proofs.reading.found.Goals as goal

pub returns-in_err-descs-clause-refused : goal.returns-in_err-descs-clause-refused
returns-in_err-descs-clause-refused c =
    let e : Refusal = c.in_err-descs.field-0.0 in
    handed_on (IfSaid (λ m. OfBases c.args.zero.now (λ ds tables. shape c.args.stmt.now tables ≡ Some m))) c.from_residual.result e c.from_residual.ensures.1
    (said_again (λ m. OfBases c.args.zero.now (λ ds tables. ⊥)) (λ m. OfBases c.args.zero.now (λ ds tables. shape c.args.stmt.now tables ≡ Some m)) e (λ m none. λ files at ds tables b shows. absurd (none files at ds tables b shows)) c.in_err-descs.ensures.damaged)

pub returns-clause-table : goal.returns-clause-table
returns-clause-table c =
    let named = named_is c.args.stmt.now c.args.name.now c.as_slice.result.now c.in_ok-descs.descs c.in_ok-desc.desc c.in_ok-desc.ensures c.as_slice.ensures c.requires.name in
    if_ok c.suited.result (λ d is. table_is c.args.stmt.now c.in_ok-descs.descs d c.in_ok-descs.ensures.sound (named ∙ is)) c.suited.ensures.is

pub returns-clause-found : goal.returns-clause-found
returns-clause-found c =
    let named = named_is c.args.stmt.now c.args.name.now c.as_slice.result.now c.in_ok-descs.descs c.in_ok-desc.desc c.in_ok-desc.ensures c.as_slice.ensures c.requires.name in
    ok_both c.suited.result (λ d is shaped. found_is c.args.stmt.now c.in_ok-descs.descs c.args.zero.now d c.in_ok-descs.ensures.are (named ∙ is)
    (subst (λ (x : Option TableDesc). (o : Option Table) → HasCols x o → shape_over c.args.stmt.now o ≡ None) (sym named) shaped)) c.suited.ensures.is c.suited.ensures.shaped

pub returns-clause-refused : goal.returns-clause-refused
returns-clause-refused c =
    let named = named_is c.args.stmt.now c.args.name.now c.as_slice.result.now c.in_ok-descs.descs c.in_ok-desc.desc c.in_ok-desc.ensures c.as_slice.ensures c.requires.name in
    if_err c.suited.result (λ e said. said_again (λ m. (o : Option Table) → HasCols c.in_ok-desc.desc o → shape_over c.args.stmt.now o ≡ Some m) (λ m. OfBases c.args.zero.now (λ ds tables. shape c.args.stmt.now tables ≡ Some m)) e
    (λ m f. shape_is c.args.stmt.now c.in_ok-descs.descs c.args.zero.now (Some m) c.in_ok-descs.ensures.are (subst (λ (x : Option TableDesc). (o : Option Table) → HasCols x o → shape_over c.args.stmt.now o ≡ Some m) (sym named) f)) said) c.suited.ensures.refused
