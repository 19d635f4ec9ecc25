use Rattle.std.proofs.Common.{◌≡◌, drop, false}
use Rattle.sql_lex.specs.Texts.{text_end}
use Rattle.sql_lex.proofs.text.text_end.Given as goal

abbrev pub invariant-loop-i : goal.invariant-loop-i
invariant-loop-i l = text_end l.quote l.i (drop l.i l.bytes) ≡ text_end false 0 l.bytes
