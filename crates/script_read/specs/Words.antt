-- The word of each reason for a refusal.
use Rattle.std.specs.Prelude.{ℕ, List, codes}
use Rattle.script_read.specs.declared.refusal.Why.{Why}
use Rattle.script_read.specs.declared.refusal.Why.TheVariants.{Byte, Before, Session, Directive, Pick, Many}

abbrev pub text_of : Why → List ℕ
text_of Byte = codes "byte"
text_of Before = codes "before"
text_of Session = codes "session"
text_of Directive = codes "directive"
text_of Pick = codes "pick"
text_of Many = codes "many"
