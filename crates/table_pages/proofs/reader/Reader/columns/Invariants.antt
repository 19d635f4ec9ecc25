use Rattle.std.proofs.Common.{◌≡◌, ◌-◌}
use Rattle.page_base.specs.Reading.{times_at}
use Rattle.page_base.proofs.TimesLoop.{with_front}
use Rattle.table_pages.specs.Headers.{column_at, columns_at}
use Rattle.table_pages.proofs.reader.Reader.columns.Given as goal

abbrev pub invariant-loop : goal.invariant-loop
invariant-loop l = with_front l.cols (times_at column_at (l.count - l.counter) l.self) ≡ columns_at l.fn.self
