use Rattle.std.proofs.Common.{refl}
use Rattle.reply_text.proofs.law.what_is_printed_is_read_back.Goals as goal

pub returns : goal.returns
returns c = λ book told. record { told = told; spelled = refl }
