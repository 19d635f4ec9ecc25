use Rattle.std.proofs.Common.{[], ◌∷◌}
use Rattle.std.specs.Prelude.{codes}
use Rattle.snapdb.proofs.Closings.{three_pieces}
use Rattle.snapdb.proofs.top.with_close_line.Goals as goal

pub returns : goal.returns
returns c = rw (c.in_ok-extend_from_slice-3.ensures.items, c.in_ok-extend_from_slice-2.ensures.items, c.bytes.ensures.value, c.in_ok-extend_from_slice.ensures.items) (three_pieces c.args.text.items (codes "refused: close ") c.args.name.now (10 ∷ []))
