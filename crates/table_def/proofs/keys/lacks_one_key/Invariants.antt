use Rattle.std.proofs.Common.{◌≡◌, ◌-◌, ◌^◌, length, min, take}
use Rattle.table_def.specs.Keys.{keys_of}
use Rattle.table_def.proofs.keys.lacks_one_key.Given as goal

abbrev pub invariant-loop-part : goal.invariant-loop-part
invariant-loop-part l = l.keys ≡ min (length (keys_of (take l.part-index l.parts))) (2 ^ 64 - 1)
