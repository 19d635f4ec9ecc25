use Rattle.std.proofs.Common.{◌≡◌, ◌∷◌, List, ℕ, take, drop, ap, sym, ◌∙◌, false}
use Rattle.reply_text.specs.Pieces.{pieces, pieces_of, piece_len, behind_first}
use Rattle.reply_text.proofs.PieceLemmas.{cuts}
use Rattle.reply_text.proofs.pieces.cut.Goals as goal

pub returns : goal.returns
returns c = rw (c.behind_first.ensures, c.split_at.ensures.front, c.split_at.ensures.back, c.piece_len.ensures.value) (cuts c.args.separator false c.args.bytes.now)
