use Rattle.reply_text.proofs.Refusals.{books_are_one}
use Rattle.reply_text.proofs.law.printed_histories_have_one_reading.Goals as goal

pub returns : goal.returns
returns c = books_are_one
