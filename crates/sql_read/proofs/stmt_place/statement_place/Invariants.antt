use Rattle.sql_read.proofs.PlaceLemmas.{Passed}
use Rattle.sql_read.proofs.stmt_place.statement_place.Given as goal

abbrev pub invariant-loop : goal.invariant-loop
invariant-loop l = Passed l.initial.tokens l.counter l.tokens
