-- The new rows so far, and the keys with them.
use Rattle.std.proofs.Common.{map}
use Rattle.plain_model.specs.Inserting.{new_row}
use Rattle.plain_model.specs.Tables.{key_of}
use Rattle.stmt_eval.proofs.InsertingLemmas.{IsInserted}
use Rattle.stmt_eval.proofs.inserting.inserted.Given as goal

abbrev pub invariant-loop-i : goal.invariant-loop-i
invariant-loop-i l = IsInserted l.cols (map (key_of l.cols) l.fn.rows) (new_row l.names l.cols) l.lists l.i l.news l.keys
