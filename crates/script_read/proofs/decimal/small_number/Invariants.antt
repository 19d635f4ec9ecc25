use Rattle.std.proofs.Common.{◌≡◌, ◌≤◌, drop}
use Rattle.script_read.specs.Decimal.{number_behind, number_of}
use Rattle.script_read.proofs.decimal.small_number.Given as goal

abbrev pub invariant-loop-digit : goal.invariant-loop-digit
invariant-loop-digit l = record {
  value : number_behind l.number (drop l.digit-index l.digits) ≡ number_of l.digits;
  small : l.number ≤ 64;
}
