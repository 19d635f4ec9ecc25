use Rattle.std.proofs.Common.{◌≡◌, ◌≤◌, length, drop}
use Rattle.sql_lex.specs.Cut.{tokens_from}
use Rattle.sql_lex.proofs.place.token_place.Given as goal

abbrev pub invariant-loop : goal.invariant-loop
invariant-loop l = record {
  within : l.at ≤ length l.batch;
  found : drop l.counter (tokens_from l.batch 0) ≡ tokens_from l.batch l.at;
}
