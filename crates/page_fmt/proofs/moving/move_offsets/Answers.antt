use Rattle.std.proofs.Common.{◌*◌, length, ap, sym, ◌∙◌, arith}
use Rattle.page_fmt.specs.Spelling.{le16, table}
use Rattle.page_fmt.specs.Places.{put, moved}
use Rattle.page_fmt.proofs.SpellingLemmas.{length-table}
use Rattle.page_fmt.proofs.MovingLemmas.{moved_none, moved_all, moved_more}
use Rattle.page_fmt.proofs.moving.move_offsets.Goals as goal

pub loop-i-init : goal.loop-i-init
loop-i-init c = λ os e. e ∙ ap table (sym (moved_none (moved c.args.old c.args.new) os))

pub loop-i-preserved : goal.loop-i-preserved
loop-i-preserved c = λ os e.
    moved_more (moved c.args.old c.args.new) os c.loop-i.bytes _ c.loop-i.i c.number-offset.result (omega (arith, length-table os, ap length e)) (c.loop-i.invariant os e) c.number-offset.ensures
    (c.write_number.ensures ∙ ap (λ o. put (2 * c.loop-i.i) (le16 o) c.loop-i.bytes) c.moved.ensures)

pub returns : goal.returns
returns c = λ os e. c.loop-i.invariant os e ∙ ap table (moved_all (moved c.args.old c.args.new) os c.loop-i.i (omega (arith, length-table os, ap length e)))
