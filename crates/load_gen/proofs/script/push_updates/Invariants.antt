use Rattle.std.proofs.Common.{◌≡◌, ◌+◌, ◌-◌, ◌++◌}
use Rattle.load_gen.specs.Script.{updates_text}
use Rattle.load_gen.proofs.script.push_updates.Given as goal

abbrev pub invariant-loop-number : goal.invariant-loop-number
invariant-loop-number l = record {
  lines : l.text.items ≡ l.fn.text.items ++ updates_text l.fn.draws.seed (l.number - 1);
  seed : l.draws.seed ≡ l.fn.draws.seed;
  taken : l.draws.taken + 1 ≡ 4000 + l.number;
}
