use Rattle.std.proofs.Common.{◌≡◌, ◌<◌, ◌≤◌, ℕ, true}
use Rattle.sys_cat.specs.Lists.{has_number}
use Rattle.sys_cat.proofs.NumberLemmas.{from}
use Rattle.sys_cat.proofs.number.next_number.Given as goal

abbrev pub invariant-loop-number : goal.invariant-loop-number
invariant-loop-number l = (1 ≤ l.number) × ((n : ℕ) → 1 ≤ n → n < l.number → has_number l.descs n ≡ true)

abbrev pub decreases-loop-number : goal.decreases-loop-number
decreases-loop-number l = from l.descs l.number
