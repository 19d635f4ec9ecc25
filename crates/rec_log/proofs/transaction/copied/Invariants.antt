-- The copies are of the records so far.
use Rattle.std.proofs.Common.{◌≡◌, take}
use Rattle.rec_log.proofs.transaction.copied.Given as goal

abbrev pub invariant-loop-rec : goal.invariant-loop-rec
invariant-loop-rec l = l.copies.items ≡ take l.rec-index l.recs
