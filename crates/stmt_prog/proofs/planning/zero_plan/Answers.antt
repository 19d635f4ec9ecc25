use Rattle.table_walk.proofs.Exits.{handed_on}
use Rattle.stmt_prog.specs.Reading.{OfBases}
use Rattle.stmt_prog.specs.Refusing.{IfSaid, of_seen}
use Rattle.stmt_prog.proofs.ReadLemmas.{no_base}
use Rattle.stmt_prog.proofs.planning.zero_plan.Goals as goal

pub returns-in_err-plan-clause-damaged : goal.returns-in_err-plan-clause-damaged
returns-in_err-plan-clause-damaged c =
    handed_on (IfSaid (λ m. OfBases c.args.zero.now (λ ds tables. ⊥))) c.from_residual-in_err-plan.result (of_seen c.in_err-plan.field-0.0) c.from_residual-in_err-plan.ensures.1
    (no_base c.in_ok-cols.cols c.root.result c.args.zero.now c.in_err-plan.field-0.0 c.in_ok-cols.ensures c.root.ensures c.in_err-plan.ensures.whole)
