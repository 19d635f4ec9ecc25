use Rattle.std.proofs.lemmas.Str.{IsUtf8-from_ascii}
use Rattle.reply_text.proofs.NumberLemmas.{ok_only}
use Rattle.reply_text.proofs.number.as_text.Goals as goal

pub unwrap-requires : goal.unwrap-requires
unwrap-requires c = ok_only c.from_utf8.result _ _ c.from_utf8.ensures.cases (λ e h. h.0 (IsUtf8-from_ascii c.args.word.now c.requires))
