use Rattle.std.proofs.Common.{◌≡◌, drop}
use Rattle.table_def.specs.Keys.{key_of}
use Rattle.table_def.proofs.keys.key_of.Given as goal

abbrev pub invariant-loop-part : goal.invariant-loop-part
invariant-loop-part l = key_of (drop l.part-index l.parts) ≡ key_of l.parts
