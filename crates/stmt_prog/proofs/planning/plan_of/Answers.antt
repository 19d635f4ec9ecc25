use Rattle.std.specs.Prelude.{All}
use Rattle.table_walk.specs.Tables.{MayPut}
use Rattle.table_walk.proofs.Exits.{handed_on}
use Rattle.stmt_prog.specs.Reading.{OfRows}
use Rattle.stmt_prog.specs.Refusing.{IfSaid, of_seen}
use Rattle.stmt_prog.proofs.ReadLemmas.{no_rows, said_again}
use Rattle.stmt_prog.proofs.planning.plan_of.Goals as goal

pub returns-in_err-plan-clause-damaged : goal.returns-in_err-plan-clause-damaged
returns-in_err-plan-clause-damaged c =
    let d = c.args.desc.now in
    handed_on (IfSaid (λ m. All (MayPut d.cols) c.args.effect.now.puts → OfRows d.cols d.root c.args.own.now (λ rows. ⊥))) c.from_residual-in_err-plan.result (of_seen c.in_err-plan.field-0.0) c.from_residual-in_err-plan.ensures.1
    (said_again (λ m. OfRows d.cols d.root c.args.own.now (λ rows. ⊥)) (λ m. All (MayPut d.cols) c.args.effect.now.puts → OfRows d.cols d.root c.args.own.now (λ rows. ⊥)) (of_seen c.in_err-plan.field-0.0) (λ m none may. none)
    (no_rows d.cols d.root c.args.own.now c.in_err-plan.field-0.0 c.in_err-plan.ensures.whole))
