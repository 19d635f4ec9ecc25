use Rattle.std.proofs.Common.{◌≡◌, ◌∙◌, sym}
use Rattle.reply_text.specs.Numbers.{is_numeral}
use Rattle.reply_text.proofs.NumberLemmas.{number_parsed, numeral_digits, digits_ascii}
use Rattle.reply_text.proofs.number.small_number.Goals as goal

pub as_text-requires : goal.as_text-requires
as_text-requires c = digits_ascii c.args.word.now (numeral_digits c.args.word.now (cc)).0

pub returns : goal.returns
returns c = c.ok.ensures.value ∙ number_parsed 32 c.args.word.now c.parse.result (cc) (rw c.as_text.ensures at c.parse.ensures.value.0)
