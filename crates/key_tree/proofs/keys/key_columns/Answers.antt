use Rattle.std.proofs.Common.{◌∙◌, ap, sym, append-nil, None, Some}
use Rattle.std.specs.Prelude.{option_to_list}
use Rattle.key_tree.proofs.KeyLemmas.{columns_more}
use Rattle.key_tree.proofs.keys.key_columns.Goals as goal
use Rattle.key_tree.proofs.keys.key_columns.Goals.{in-Some+in_ok-push-in-Some, in-None}

pub loop-i-preserved : goal.loop-i-preserved
loop-i-preserved c = elim c.match-key_column.branch [
  | in-Some+in_ok-push-in-Some w ↦
      columns_more c.args.cols.now c.loop-i.i c.loop-i.keys c.match-key_column.keys (Some w.in-Some.column) c.loop-i.invariant (ap option_to_list (sym w.in-Some.is) ∙ c.key_column.ensures) (w.keys-is ∙ w.in_ok-push-in-Some.ensures.ok)
  | in-None w ↦
      columns_more c.args.cols.now c.loop-i.i c.loop-i.keys c.match-key_column.keys None c.loop-i.invariant (ap option_to_list (sym w.in-None.is) ∙ c.key_column.ensures) (w.keys-is ∙ sym (append-nil c.loop-i.keys))
]
