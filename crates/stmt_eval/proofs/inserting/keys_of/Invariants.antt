-- The set holds the keys of the rows so far.
use Rattle.std.proofs.Common.{map, take}
use Rattle.plain_model.specs.Tables.{key_of}
use Rattle.stmt_eval.specs.Keys.{HasKeys}
use Rattle.stmt_eval.proofs.inserting.keys_of.Given as goal

abbrev pub invariant-loop-row : goal.invariant-loop-row
invariant-loop-row l = HasKeys l.keys (map (key_of l.cols) (take l.row-index l.row-items))
