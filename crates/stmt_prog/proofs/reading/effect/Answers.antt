use Rattle.table_walk.proofs.Exits.{handed_on}
use Rattle.stmt_prog.specs.Reading.{OfRows}
use Rattle.stmt_prog.specs.Refusing.{IfSaid, of_seen}
use Rattle.stmt_prog.proofs.ReadLemmas.{no_rows, table_read}
use Rattle.stmt_prog.proofs.reading.effect.Goals as goal

pub returns-in_err-list-clause-damaged : goal.returns-in_err-list-clause-damaged
returns-in_err-list-clause-damaged c =
    let d = c.args.desc.now in
    handed_on (IfSaid (λ m. OfRows d.cols d.root c.args.own.now (λ rows. ⊥))) c.from_residual.result (of_seen c.in_err-list.field-0.0) c.from_residual.ensures.1 (no_rows d.cols d.root c.args.own.now c.in_err-list.field-0.0 c.in_err-list.ensures.whole)

pub returns-clause-is : goal.returns-clause-is
returns-clause-is c = λ at owns rows table shows.
    let d = c.args.desc.now in
    c.in_ok-effect_of.ensures (record { cols = d.cols; rows = rows }) (table_read d.cols d.root c.args.own.now c.in_ok-list.list c.in_ok-list.ensures.rows at owns rows table shows)
