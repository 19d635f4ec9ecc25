use Rattle.std.proofs.Common.{◌≡◌, take}
use Rattle.table_def.specs.Parts.{names_of}
use Rattle.table_def.proofs.names.names_of.Given as goal

abbrev pub invariant-loop-part : goal.invariant-loop-part
invariant-loop-part l = l.names ≡ names_of (take l.part-index l.parts)
