use Rattle.std.proofs.Common.{◌≤◌, length}
use Rattle.std.specs.Io.KnownBytes.{Consumes}
use Rattle.snapdb.specs.declared.stream.TheConstants.{LIMIT}
use Rattle.snapdb.proofs.stream.read_by.Given as goal

abbrev pub invariant-loop : goal.invariant-loop
invariant-loop g l = record {
  consumed : Consumes (g.S.Source.left l.fn.input) (g.S.Source.left l.input) l.bytes.items;
  short : length l.bytes.items ≤ LIMIT;
  later : g.S.Source.failures l.fn.input ≤ g.S.Source.failures l.input;
}
