use Rattle.std.proofs.Common.{◌≡◌, List, [], sym, ap, ◌∙◌, Some}
use Rattle.std.specs.Prelude.{Option}
use Rattle.page_fmt.specs.Seen.{look}
use Rattle.table_walk.specs.declared.visit.Visit.{Visit}
use Rattle.table_walk.specs.declared.find.Find.TheVariants.{Keys}
use Rattle.table_walk.specs.Answers.{IsAt}
use Rattle.table_walk.specs.Tables.{Gathers, AreRows, IsBadRow, cells}
use Rattle.table_walk.specs.Walk.{IsSeenWalk, IsDone}
use Rattle.table_walk.proofs.Exits.{handed_on}
use Rattle.std.specs.FinMap as finite
use Rattle.plain_model.specs.Tables.{Rows}
use Rattle.tree_laws.specs.Keys.{Key, key_columns}
use Rattle.tree_laws.specs.Kids.{kids_by, tree_kids}
use Rattle.tree_laws.specs.LookUps.{IsLookedUp, IsNoRowFor}
use Rattle.key_tree.proofs.ReadLemmas.{kids_now, keys_now, on_tree, from_tree, found_begin, found_more, found_all, found_are, no_row_for, item_looked, with_found}
use Rattle.key_tree.proofs.reading.rows_of_keys.Goals as goal
use Rattle.key_tree.proofs.reading.rows_of_keys.Goals.{in-Some+in_ok-copy_row-in-Some+in_ok-put-in-Some, in-None}

pub loop-key-init : goal.loop-key-init
loop-key-init c = record {
  keys = ap (λ t. t.keys) c.whole-tree.ensures ∙ c.in_ok-key_columns.ensures.columns ∙ ap key_columns c.as_slice.ensures;
  found = found_begin c.args.cols.now c.args.seen.now c.args.root c.args.keys.now c.new-rows.result c.new-rows.ensures;
}

pub row_of-requires-clause-done : goal.row_of-requires-clause-done
row_of-requires-clause-done c =
    let kids : kids_by c.look_for.new.self.keys c.look_for.new.self.key ≡ tree_kids c.args.cols.now (Some c.key-item.result) =
    kids_now c.args.cols.now c.look_for.new.self c.loop-key.tree c.key-item.result c.in_ok-copy_row.field-0 c.look_for.ensures c.loop-key.invariant.keys c.in_ok-copy_row.ensures in
    from_tree c.args.cols.now (Some c.key-item.result) c.args.root (kids_by c.look_for.new.self.keys c.look_for.new.self.key) c.first.result (λ k s. IsDone k c.args.seen.now s) kids c.first.ensures
    (item_looked c.args.cols.now c.args.seen.now c.args.root c.args.keys.now c.loop-key.key-index c.key-item.result c.requires c.loop-key-test.true c.key-item.is)

pub returns-in_err-row-clause-bad : goal.returns-in_err-row-clause-bad
returns-in_err-row-clause-bad c =
    let kids : kids_by c.look_for.new.self.keys c.look_for.new.self.key ≡ tree_kids c.args.cols.now (Some c.key-item.result) =
    kids_now c.args.cols.now c.look_for.new.self c.loop-key.tree c.key-item.result c.in_ok-copy_row.field-0 c.look_for.ensures c.loop-key.invariant.keys c.in_ok-copy_row.ensures in
    handed_on (IsAt (IsNoRowFor c.args.cols.now c.args.seen.now c.args.root (Keys c.args.keys.now))) c.from_residual-in_err-row.result c.in_err-row.field-0.0 c.from_residual-in_err-row.ensures.1
    (no_row_for c.args.cols.now c.args.seen.now c.args.root c.args.keys.now c.loop-key.key-index c.key-item.result c.loop-key-test.true c.key-item.is c.in_err-row.field-0.0
    (on_tree c.args.cols.now (Some c.key-item.result) c.args.root (kids_by c.look_for.new.self.keys c.look_for.new.self.key) c.first.result (λ k s. IsAt (IsBadRow k c.args.cols.now c.args.seen.now s) c.in_err-row.field-0.0) kids c.first.ensures c.in_err-row.ensures.bad))

pub loop-key-preserved : goal.loop-key-preserved
loop-key-preserved c =
    let kids : kids_by c.look_for.new.self.keys c.look_for.new.self.key ≡ tree_kids c.args.cols.now (Some c.key-item.result) =
    kids_now c.args.cols.now c.look_for.new.self c.loop-key.tree c.key-item.result c.in_ok-copy_row.field-0 c.look_for.ensures c.loop-key.invariant.keys c.in_ok-copy_row.ensures in
    let looked : IsLookedUp c.args.cols.now c.args.seen.now c.args.root c.key-item.result =
    item_looked c.args.cols.now c.args.seen.now c.args.root c.args.keys.now c.loop-key.key-index c.key-item.result c.requires c.loop-key-test.true c.key-item.is in
    let row = on_tree c.args.cols.now (Some c.key-item.result) c.args.root (kids_by c.look_for.new.self.keys c.look_for.new.self.key) c.first.result
    (λ k s. (done : List Visit) (all : Rows) → IsSeenWalk k c.args.seen.now s done [] → Gathers c.args.cols.now (cells (look c.args.seen.now) done) all → c.in_ok-row.field-0 ≡ finite.get all c.key-item.result) kids c.first.ensures c.in_ok-row.ensures.row in
    let are = on_tree c.args.cols.now (Some c.key-item.result) c.args.root (kids_by c.look_for.new.self.keys c.look_for.new.self.key) c.first.result
    (λ k s. (done : List Visit) → IsSeenWalk k c.args.seen.now s done [] → AreRows c.args.cols.now (cells (look c.args.seen.now) done)) kids c.first.ensures c.in_ok-row.ensures.are in
    record {
      keys = keys_now c.args.cols.now c.look_for.new.self c.loop-key.tree c.in_ok-copy_row.field-0 c.look_for.ensures c.loop-key.invariant.keys;
      found = elim c.match-branch-5.branch [
        | in-Some+in_ok-copy_row-in-Some+in_ok-put-in-Some w ↦
            found_more c.args.cols.now c.args.seen.now c.args.root c.args.keys.now c.loop-key.key-index c.key-item.result c.in_ok-row.field-0 c.loop-key.rows c.match-branch-5.rows c.loop-key.invariant.found c.loop-key-test.true c.key-item.is looked row are
            (w.rows-is ∙ w.in_ok-put-in-Some.ensures.ok ∙ ap (λ (k : Key). finite.insert c.loop-key.rows k w.in-Some.row) w.in_ok-copy_row-in-Some.ensures ∙ sym (ap (λ (o : Option Key). with_found c.args.cols.now c.args.seen.now c.args.root c.key-item.result o c.loop-key.rows) w.in-Some.is))
        | in-None w ↦
            found_more c.args.cols.now c.args.seen.now c.args.root c.args.keys.now c.loop-key.key-index c.key-item.result c.in_ok-row.field-0 c.loop-key.rows c.match-branch-5.rows c.loop-key.invariant.found c.loop-key-test.true c.key-item.is looked row are
            (w.rows-is ∙ sym (ap (λ (o : Option Key). with_found c.args.cols.now c.args.seen.now c.args.root c.key-item.result o c.loop-key.rows) w.in-None.is))
      ];
    }

pub returns-clause-rows : goal.returns-clause-rows
returns-clause-rows c = found_all c.args.cols.now c.args.seen.now c.args.root c.args.keys.now c.loop-key.key-index c.loop-key.rows c.loop-key.invariant.found c.loop-key-test.false

pub returns-clause-are : goal.returns-clause-are
returns-clause-are c = found_are c.args.cols.now c.args.seen.now c.args.root c.args.keys.now c.loop-key.key-index c.loop-key.rows c.loop-key.invariant.found c.loop-key-test.false
