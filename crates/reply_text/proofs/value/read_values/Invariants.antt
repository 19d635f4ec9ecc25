use Rattle.std.proofs.Common.{◌≡◌, ◌++◌, List, length}
use Rattle.std.specs.Option.{option_map}
use Rattle.page_base.specs.declared.value.Value.{Value}
use Rattle.reply_text.specs.Values.{values_on}
use Rattle.reply_text.proofs.value.read_values.Given as goal

abbrev pub invariant-loop-piece : goal.invariant-loop-piece
invariant-loop-piece l = values_on l.fn.pieces ≡ option_map (λ (more : List Value). l.row ++ more) (values_on l.pieces)

abbrev pub decreases-loop-piece : goal.decreases-loop-piece
decreases-loop-piece l = length l.pieces
