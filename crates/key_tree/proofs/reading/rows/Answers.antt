use Rattle.std.proofs.Common.{◌≡◌, List, [], sym, subst, ap, ◌∙◌, None}
use Rattle.std.specs.FinMap as finite
use Rattle.page_fmt.specs.Seen.{look}
use Rattle.plain_model.specs.Tables.{Rows}
use Rattle.table_walk.specs.declared.find.Find.{Find}
use Rattle.table_walk.specs.declared.find.Find.TheVariants.{Keys}
use Rattle.table_walk.specs.declared.visit.Visit.{Visit}
use Rattle.table_walk.specs.Answers.{IsAt, IsMemory, asked}
use Rattle.table_walk.specs.Tables.{Gathers, IsBadRow, cells}
use Rattle.table_walk.specs.Walk.{IsSeenWalk, IsDone}
use Rattle.table_walk.proofs.Exits.{handed_on, if_ok, if_err}
use Rattle.table_walk.proofs.TableLemmas.{table_gathers, table_no_bad_row}
use Rattle.tree_laws.specs.Keys.{Key, key_columns}
use Rattle.tree_laws.specs.Kids.{kids_by, tree_kids, first}
use Rattle.tree_laws.specs.LookUps.{IsRead}
use Rattle.tree_laws.specs.Order.{tree_shape}
use Rattle.key_tree.proofs.ReadLemmas.{kids_all, on_tree, keys_no_bad_row}
use Rattle.key_tree.proofs.reading.rows.Goals as goal

pub rows_of_keys-requires : goal.rows_of_keys-requires
rows_of_keys-requires c =
    let read : IsRead c.args.cols.now c.args.seen.now c.args.root (Keys c.in-Keys.keys) = subst (IsRead c.args.cols.now c.args.seen.now c.args.root) c.in-Keys.is c.requires in
    subst (λ (ks : List Key). IsRead c.args.cols.now c.args.seen.now c.args.root (Keys ks)) (sym c.as_slice-in-Keys.ensures) read

pub returns-in_err-rows-in-Keys-clause-whole : goal.returns-in_err-rows-in-Keys-clause-whole
returns-in_err-rows-in-Keys-clause-whole c = λ at owns all t shows.
    handed_on IsMemory c.from_residual-in_err-rows-in-Keys.result c.in_err-rows-in-Keys.field-0.0 c.from_residual-in_err-rows-in-Keys.ensures.1
    (keys_no_bad_row c.args.cols.now c.args.seen.now c.args.root at owns all t shows c.as_slice-in-Keys.result.now c.in_err-rows-in-Keys.field-0.0 c.in_err-rows-in-Keys.ensures.bad)

pub returns-in_ok-keys-in-All-clause-rows : goal.returns-in_ok-keys-in-All-clause-rows
returns-in_ok-keys-in-All-clause-rows c = λ at owns all t shows.
    let kids : kids_by c.whole.result.keys c.whole.result.key ≡ tree_kids c.args.cols.now None = kids_all c.args.cols.now c.in_ok-keys-in-All.keys c.whole.result c.whole.ensures (c.in_ok-keys-in-All.ensures.columns ∙ ap key_columns c.as_slice.ensures) in
    let read : IsDone (tree_kids c.args.cols.now None) c.args.seen.now (first c.args.root) = subst (IsRead c.args.cols.now c.args.seen.now c.args.root) c.in-All.is c.requires in
    if_ok c.rows_of-in-All.result (λ r is.
    on_tree c.args.cols.now None c.args.root (kids_by c.whole.result.keys c.whole.result.key) c.first.result (λ k s. (done : List Visit) (all : Rows) → IsSeenWalk k c.args.seen.now s done [] → Gathers c.args.cols.now (cells (look c.args.seen.now) done) all → r ≡ finite.values (asked c.args.find.now all)) kids c.first.ensures is
    read.0 all read.1 (table_gathers (tree_shape c.args.cols.now) c.args.cols.now at owns (first c.args.root) all c.args.seen.now t read.0 shows read.1)) c.rows_of-in-All.ensures.rows

pub returns-in_ok-keys-in-All-clause-whole : goal.returns-in_ok-keys-in-All-clause-whole
returns-in_ok-keys-in-All-clause-whole c = λ at owns all t shows.
    let kids : kids_by c.whole.result.keys c.whole.result.key ≡ tree_kids c.args.cols.now None = kids_all c.args.cols.now c.in_ok-keys-in-All.keys c.whole.result c.whole.ensures (c.in_ok-keys-in-All.ensures.columns ∙ ap key_columns c.as_slice.ensures) in
    if_err c.rows_of-in-All.result (λ e bad. table_no_bad_row (tree_shape c.args.cols.now) c.args.cols.now at owns (first c.args.root) all c.args.seen.now t e shows
    (on_tree c.args.cols.now None c.args.root (kids_by c.whole.result.keys c.whole.result.key) c.first.result (λ k s. IsAt (IsBadRow k c.args.cols.now c.args.seen.now s) e) kids c.first.ensures bad)) c.rows_of-in-All.ensures.bad

pub returns-in_ok-into_list-in-Keys-clause-rows : goal.returns-in_ok-into_list-in-Keys-clause-rows
returns-in_ok-into_list-in-Keys-clause-rows c = λ at owns all t shows.
    c.in_ok-into_list-in-Keys.ensures ∙ ap (λ (m : Rows). finite.values m) (c.in_ok-rows-in-Keys.ensures.rows at owns all t shows)
    ∙ ap (λ (f : Find). finite.values (asked f all)) (ap Keys c.as_slice-in-Keys.ensures ∙ sym c.in-Keys.is)
