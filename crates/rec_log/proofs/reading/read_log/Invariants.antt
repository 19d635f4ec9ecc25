-- The bytes are the entries so far and what the reader has left, which grows shorter.
use Rattle.std.proofs.Common.{map, length}
use Rattle.rec_log.specs.Entries.{entry_of}
use Rattle.rec_log.proofs.LogLemmas.{IsReadSoFar}
use Rattle.rec_log.proofs.reading.read_log.Given as goal

abbrev pub invariant-loop-reader : goal.invariant-loop-reader
invariant-loop-reader l = IsReadSoFar l.bytes (map entry_of l.entries.items) l.reader

abbrev pub decreases-loop-reader : goal.decreases-loop-reader
decreases-loop-reader l = length l.reader
