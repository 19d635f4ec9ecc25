use Rattle.std.proofs.Common.{sym}
use Rattle.std.proofs.lemmas.List.{append-nil}
use Rattle.table_pages.specs.Headers.{column_bytes}
use Rattle.table_pages.specs.Names.{IsKeptColumn}
use Rattle.table_pages.proofs.WriteLemmas.{write_more, write_all}
use Rattle.table_pages.proofs.header.put_columns.Goals as goal

pub loop-column-init : goal.loop-column-init
loop-column-init c = record { is = sym (append-nil c.args.out.now.items); each = tt }

pub loop-column-preserved : goal.loop-column-preserved
loop-column-preserved c = write_more column_bytes IsKeptColumn c.args.cols.now c.loop-column.column-index c.column-item.result c.args.out.now.items c.loop-column.out.items c.put_column.new.out.items c.loop-column-test.true c.column-item.is c.loop-column.invariant c.in_ok-put_column.ensures.ok c.in_ok-put_column.ensures.kept

pub returns-clause-ok : goal.returns-clause-ok
returns-clause-ok c = (write_all column_bytes IsKeptColumn c.args.cols.now c.loop-column.column-index c.args.out.now.items c.loop-column.out.items c.loop-column-test.false c.loop-column.invariant).0

pub returns-clause-kept : goal.returns-clause-kept
returns-clause-kept c = (write_all column_bytes IsKeptColumn c.args.cols.now c.loop-column.column-index c.args.out.now.items c.loop-column.out.items c.loop-column-test.false c.loop-column.invariant).1
