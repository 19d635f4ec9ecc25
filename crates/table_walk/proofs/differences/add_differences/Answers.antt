use Rattle.table_walk.proofs.EditLemmas.{adds_page}
use Rattle.table_walk.proofs.Exits.{on_ok}
use Rattle.table_walk.proofs.differences.add_differences.Goals as goal

pub returns : goal.returns
returns c = on_ok c.add_changes-2.result (λ e. adds_page c.args.spot c.args.old.now c.args.new.now c.args.edits.now c.add_changes.new.edits _ c.requires.old c.requires.new c.in_ok-add_changes.ensures e) c.add_changes-2.ensures
