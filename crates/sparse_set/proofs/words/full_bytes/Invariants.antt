use Rattle.std.proofs.Common.{◌≡◌, ◌≤◌}
use Rattle.sparse_set.specs.Groups.{groups_in, bits_in}
use Rattle.sparse_set.proofs.words.full_bytes.Given as goal

abbrev pub invariant-loop-place : goal.invariant-loop-place
invariant-loop-place l = (l.count ≡ groups_in (bits_in l.word) l.place) × (l.count ≤ l.place)
