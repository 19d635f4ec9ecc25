use Rattle.reply_text.proofs.PieceLemmas.{over_is}
use Rattle.reply_text.proofs.pieces.Pieces.is_over.Goals as goal

pub returns : goal.returns
returns c = over_is c.self.inside.separator c.self.inside.rest c.args.self.now c.is_none.result c.self.view_is c.is_none.ensures
