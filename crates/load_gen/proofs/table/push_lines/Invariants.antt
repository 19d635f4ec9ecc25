use Rattle.std.proofs.Common.{◌≡◌, ◌+◌, ◌*◌, ◌++◌}
use Rattle.load_gen.specs.Rows.{lines_text}
use Rattle.load_gen.proofs.table.push_lines.Given as goal

abbrev pub invariant-loop-line : goal.invariant-loop-line
invariant-loop-line l = record {
  lines : l.text.items ≡ l.fn.text.items ++ lines_text l.table l.fn.draws.seed l.line;
  seed : l.draws.seed ≡ l.fn.draws.seed;
  taken : l.draws.taken ≡ l.fn.draws.taken + 100 * l.line;
}
