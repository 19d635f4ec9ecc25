use Rattle.reply_text.proofs.Refusals.{refusals_are_one}
use Rattle.reply_text.proofs.law.histories_have_one_refusal.Goals as goal

pub returns : goal.returns
returns c = refusals_are_one
