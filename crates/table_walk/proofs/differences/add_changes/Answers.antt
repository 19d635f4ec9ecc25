use Rattle.std.proofs.Common.{◌∙◌, ℕ, List, sym, ap}
use Rattle.table_walk.specs.Differences.{edit_at}
use Rattle.table_walk.proofs.EditLemmas.{adds_begin, adds_take, adds_leave, adds_end}
use Rattle.table_walk.proofs.differences.add_changes.Goals as goal

pub loop-i-init : goal.loop-i-init
loop-i-init c = adds_begin c.args.spot c.args.grows c.args.old.now c.args.new.now _ c.args.edits.now

pub loop-i-preserved-then-not-is_wanted : goal.loop-i-preserved-then-not-is_wanted
loop-i-preserved-then-not-is_wanted c =
    adds_leave c.args.spot c.args.grows c.args.old.now c.args.new.now c.loop-i.i _ c.args.edits.now c.loop-i.edits _ _ c.loop-i.invariant c.loop-i-test.true c.slot_at.ensures c.slot_at-bytes.ensures (sym c.is_wanted.ensures ∙ c.if-not-is_wanted.true)

pub loop-i-preserved : goal.loop-i-preserved
loop-i-preserved c =
    adds_take c.args.spot c.args.grows c.args.old.now c.args.new.now c.loop-i.i _ c.args.edits.now c.loop-i.edits _ _ _ _ c.loop-i.invariant c.loop-i-test.true c.slot_at.ensures c.slot_at-bytes.ensures (sym c.is_wanted.ensures ∙ c.if-not-is_wanted.false) (ap (λ (b : List ℕ). edit_at c.args.spot (c.loop-i.i, b)) (c.from.ensures ∙ c.in_ok-from_slice.ensures.items)) c.in_ok-push.ensures.ok

pub returns : goal.returns
returns c = adds_end c.args.spot c.args.grows c.args.old.now c.args.new.now c.loop-i.i _ c.args.edits.now c.loop-i.edits c.loop-i.invariant c.loop-i-test.false
