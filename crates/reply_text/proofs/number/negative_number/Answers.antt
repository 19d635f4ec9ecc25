use Rattle.std.proofs.Common.{◌≡◌, ◌∙◌, sym}
use Rattle.reply_text.specs.Numbers.{is_counting}
use Rattle.reply_text.proofs.NumberLemmas.{negative_parsed}
use Rattle.reply_text.proofs.number.negative_number.Goals as goal

pub returns : goal.returns
returns c = c.ok.ensures.value ∙ negative_parsed c.args.word.now c.args.digits.now c.parse.result c.requires (cc) (rw c.as_text.ensures at c.parse.ensures.value.0)
