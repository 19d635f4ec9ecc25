use Rattle.std.proofs.Common.{[], sym, subst}
use Rattle.table_walk.specs.Walk.{IsSeenWalk}
use Rattle.table_walk.specs.Tables.{IsBadRow}
use Rattle.table_walk.specs.Answers.{IsAt}
use Rattle.table_walk.proofs.Exits.{if_ok, if_err}
use Rattle.table_walk.proofs.TableLemmas.{table_gathers, table_no_bad_row}
use Rattle.table_heap.specs.Heap.{heap_kids, heap_shape, first}
use Rattle.table_heap.proofs.reading.rows.Goals as goal

pub returns-clause-rows : goal.returns-clause-rows
returns-clause-rows c = λ at owns all t shows.
    if_ok c.rows_of.result
    (λ r is. is c.requires.0 all (subst (λ s. IsSeenWalk heap_kids c.args.seen.now s c.requires.0 []) (sym c.first.ensures) c.requires.1) (table_gathers heap_shape c.args.cols.now at owns (first c.args.root) all c.args.seen.now t c.requires.0 shows c.requires.1))
    c.rows_of.ensures.rows

pub returns-clause-whole : goal.returns-clause-whole
returns-clause-whole c = λ at owns all t shows.
    if_err c.rows_of.result (λ e bad. table_no_bad_row heap_shape c.args.cols.now at owns (first c.args.root) all c.args.seen.now t e shows (subst (λ s. IsAt (IsBadRow heap_kids c.args.cols.now c.args.seen.now s) e) c.first.ensures bad)) c.rows_of.ensures.bad
