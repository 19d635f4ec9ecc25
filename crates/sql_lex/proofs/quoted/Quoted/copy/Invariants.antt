use Rattle.std.proofs.Common.{◌≡◌, ◌++◌, drop}
use Rattle.sql_lex.specs.Texts.{undoubled, undoubled_from}
use Rattle.sql_lex.proofs.quoted.Quoted.copy.Given as goal

abbrev pub invariant-loop-byte : goal.invariant-loop-byte
invariant-loop-byte l = l.text ++ undoubled_from l.second (drop l.byte-index l.byte-items) ≡ undoubled l.byte-items
