use Rattle.std.proofs.Common.{◌≡◌, ◌≤◌, ◌+◌, length}
use Rattle.sql_lex.specs.Cut.{tokens_from}
use Rattle.sql_lex.proofs.place.token_count.Given as goal

abbrev pub invariant-loop-at : goal.invariant-loop-at
invariant-loop-at l = record {
  within : l.at ≤ length l.batch;
  counted : l.count + length (tokens_from l.batch l.at) ≡ length (tokens_from l.batch l.from);
}

abbrev pub decreases-loop-at : goal.decreases-loop-at
decreases-loop-at l = length (tokens_from l.batch l.at)
