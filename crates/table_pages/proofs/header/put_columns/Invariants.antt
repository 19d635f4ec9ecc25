use Rattle.table_pages.specs.Headers.{column_bytes}
use Rattle.table_pages.specs.Names.{IsKeptColumn}
use Rattle.table_pages.proofs.WriteLemmas.{Written}
use Rattle.table_pages.proofs.header.put_columns.Given as goal

abbrev pub invariant-loop-column : goal.invariant-loop-column
invariant-loop-column l = Written column_bytes IsKeptColumn l.cols l.fn.out.items l.out.items l.column-index
