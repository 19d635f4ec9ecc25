use Rattle.std.proofs.Common.{subst, ◌≡◌}
use Rattle.table_walk.specs.declared.plan.Edit.{Edit}
use Rattle.table_walk.specs.Differences.{edit_at}
use Rattle.stmt_prog.proofs.TellLemmas.{placed}
use Rattle.stmt_prog.proofs.telling.place_of.Goals as goal

pub returns-then-is_of : goal.returns-then-is_of
returns-then-is_of c =
    let e : Edit = c.index-edits-i.result in
    placed c.args.bytes.now c.args.edits.now c.loop-i.i e c.loop-i-test.true (subst (λ (x : Edit). x ≡ edit_at x.spot (x.slot, c.args.bytes.now)) c.index-edits-i.is (c.is_of.ensures c.if-is_of.true))
