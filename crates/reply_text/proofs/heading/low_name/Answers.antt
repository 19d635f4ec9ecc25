use Rattle.byte_fields.proofs.LowNames.{kept_is}
use Rattle.reply_text.proofs.heading.low_name.Goals as goal

pub returns : goal.returns
returns c = kept_is c.args.word.now c.kept.result c.kept.ensures
