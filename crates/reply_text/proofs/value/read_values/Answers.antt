use Rattle.std.proofs.Common.{sym, ◌∙◌}
use Rattle.reply_text.proofs.ValueLemmas.{values_more}
use Rattle.reply_text.proofs.value.read_values.Goals as goal

pub loop-piece-preserved : goal.loop-piece-preserved
loop-piece-preserved c = values_more c.args.pieces.now c.loop-piece.pieces c.next.new.self c.in-Some.piece.now c.loop-piece.row c.push.new.self c.in-Some-2.value c.loop-piece.invariant c.in-Some.ensures (sym c.in_ok-value.ensures ∙ c.in-Some-2.is) c.in_ok-push-in-Some-2.ensures.ok
