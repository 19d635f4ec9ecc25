use Rattle.table_walk.proofs.Exits.{handed_on}
use Rattle.stmt_prog.specs.Reading.{OfBases}
use Rattle.stmt_prog.specs.Refusing.{IfSaid, of_seen, of_descs}
use Rattle.stmt_prog.proofs.ReadLemmas.{no_base, no_list, read_are}
use Rattle.stmt_prog.proofs.reading.tables_read.Goals as goal

pub returns-in_err-list-clause-damaged : goal.returns-in_err-list-clause-damaged
returns-in_err-list-clause-damaged c =
    handed_on (IfSaid (λ m. OfBases c.args.zero.now (λ ds tables. ⊥))) c.from_residual-in_err-list.result (of_seen c.in_err-list.field-0.0) c.from_residual-in_err-list.ensures.1
    (no_base c.in_ok-cols.cols c.root.result c.args.zero.now c.in_err-list.field-0.0 c.in_ok-cols.ensures c.root.ensures c.in_err-list.ensures.whole)

pub returns-in_err-descs-clause-damaged : goal.returns-in_err-descs-clause-damaged
returns-in_err-descs-clause-damaged c =
    handed_on (IfSaid (λ m. OfBases c.args.zero.now (λ ds tables. ⊥))) c.from_residual-in_err-descs.result (of_descs c.in_err-descs.field-0.0) c.from_residual-in_err-descs.ensures.1
    (no_list c.in_ok-cols.cols c.root.result c.args.zero.now c.in_ok-list.list c.in_err-descs.field-0.0 c.in_ok-cols.ensures c.root.ensures c.in_ok-list.ensures.rows c.in_err-descs.ensures.only)

pub returns-clause-are : goal.returns-clause-are
returns-clause-are c = read_are c.in_ok-cols.cols c.root.result c.args.zero.now c.in_ok-list.list c.in_ok-descs.field-0 c.in_ok-cols.ensures c.root.ensures c.in_ok-list.ensures.rows c.in_ok-descs.ensures.only
