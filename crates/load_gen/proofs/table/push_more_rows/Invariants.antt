use Rattle.std.proofs.Common.{◌≡◌, ◌+◌, ◌-◌, ◌++◌}
use Rattle.load_gen.specs.Rows.{more_rows}
use Rattle.load_gen.proofs.table.push_more_rows.Given as goal

abbrev pub invariant-loop-id : goal.invariant-loop-id
invariant-loop-id l = record {
  rows : l.text.items ≡ l.fn.text.items ++ more_rows l.table l.fn.draws.seed l.first (l.id - l.first);
  seed : l.draws.seed ≡ l.fn.draws.seed;
  taken : l.draws.taken ≡ l.fn.draws.taken + (l.id - l.first);
}
