use Rattle.std.proofs.Common.{arith, sym, ◌≤◌, ◌-◌}
use Rattle.std.proofs.lemmas.List.{length-take-le}
use Rattle.sql_lex.proofs.TextLemmas.{text_in_front}
use Rattle.sql_lex.proofs.piece.text_piece.Goals as goal

pub slice_bounds-new-count : goal.slice_bounds-new-count
slice_bounds-new-count c = (text_in_front c.args.behind.now c.in-Some.end (sym c.in-Some.ensures.value)).some

pub slice_bounds-new-length : goal.slice_bounds-new-length
slice_bounds-new-length c =
    let within : c.in-Some.end - 1 ≤ _ = omega (arith, (text_in_front c.args.behind.now c.in-Some.end (sym c.in-Some.ensures.value)).within) in
    sym (length-take-le (c.in-Some.end - 1) c.args.behind.now within)

pub new-requires : goal.new-requires
new-requires c = (text_in_front c.args.behind.now c.in-Some.end (sym c.in-Some.ensures.value)).whole
