-- The records so far are written, and are as the log holds them.
use Rattle.std.proofs.Common.{◌≡◌, ◌++◌, take}
use Rattle.std.specs.List.{concat, flat_map, AllByRecursion}
use Rattle.rec_log.specs.Entries.{IsLogged, record_fields}
use Rattle.rec_log.proofs.writing.put_records.Given as goal

abbrev pub invariant-loop-rec : goal.invariant-loop-rec
invariant-loop-rec l = (l.out.items ≡ l.fn.out.items ++ concat (flat_map record_fields (take l.rec-index l.recs))) × AllByRecursion IsLogged (take l.rec-index l.recs)
