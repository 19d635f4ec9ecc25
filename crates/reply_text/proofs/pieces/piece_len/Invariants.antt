use Rattle.std.proofs.Common.{◌≡◌, ◌+◌, drop, false}
use Rattle.reply_text.specs.Pieces.{piece_len}
use Rattle.reply_text.proofs.pieces.piece_len.Given as goal

abbrev pub invariant-loop-i : goal.invariant-loop-i
invariant-loop-i l = l.i + piece_len l.separator l.inside (drop l.i l.bytes) ≡ piece_len l.separator false l.bytes
