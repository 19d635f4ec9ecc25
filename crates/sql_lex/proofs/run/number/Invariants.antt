use Rattle.std.proofs.Common.{◌≡◌, ◌≤◌, drop}
use Rattle.sql_lex.specs.Tokens.{number_behind, number_of}
use Rattle.sql_lex.proofs.run.number.Given as goal

abbrev pub invariant-loop-digit : goal.invariant-loop-digit
invariant-loop-digit l = record {
  value : number_behind l.number (drop l.digit-index l.digits) ≡ number_of l.digits;
  small : l.number ≤ 9223372036854775807;
}
