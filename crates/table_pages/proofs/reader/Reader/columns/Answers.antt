use Rattle.std.proofs.Common.{◌≡◌, ◌+◌, ◌-◌, List, ℕ, ap, sym, ◌∙◌}
use Rattle.std.specs.Prelude.{Ok, Err}
use Rattle.page_base.specs.declared.column.Column.{Column}
use Rattle.page_base.specs.Reading.{Read, times_at}
use Rattle.page_base.proofs.FormatLemmas.{read_is}
use Rattle.page_base.proofs.TimesLoop.{with_front, times_more, times_stop, times_end}
use Rattle.table_pages.specs.Headers.{column_at, columns_at}
use Rattle.table_pages.proofs.HeaderLemmas.{stopped, no_columns, stops_not, columns_begin}
use Rattle.table_pages.proofs.reader.Reader.columns.Goals as goal

err_isnt : (all : List Column) (rest stop : List ℕ) (r : Read (List Column)) → r ≡ Ok (all, rest) → r ≡ Err stop → ⊥
err_isnt all rest stop r e f = cc

pub returns-in_default : goal.returns-in_default
returns-in_default c = λ all rest e. absurd (stops_not (columns_at c.args.self.now) all rest all (no_columns c.args.self.now c.in_default.ensures) e)

pub loop-init : goal.loop-init
loop-init c = ap (λ (cols : List Column). with_front cols (times_at column_at (c.in-Some.count - 0) c.byte.new.self)) c.new-cols.ensures ∙ columns_begin c.args.self.now c.in-Some.count c.byte.new.self c.in-Some.ensures

pub returns-in_default-column : goal.returns-in_default-column
returns-in_default-column c = λ all rest e.
    let s = stopped (column_at c.loop.self) c.in_default-column.ensures in
    absurd (err_isnt all rest s.0 (columns_at c.args.self.now) e (times_stop column_at c.loop.cols c.in-Some.count c.loop.counter c.loop.self (columns_at c.args.self.now) c.loop.invariant s.0 c.loop-test.true s.1))

pub loop-preserved : goal.loop-preserved
loop-preserved c =
    ap (λ (cols : List Column). with_front cols (times_at column_at (c.in-Some.count - (c.loop.counter + 1)) c.column.new.self)) c.in_ok-push.ensures.ok
    ∙ times_more column_at c.loop.cols c.in-Some.count c.loop.counter c.loop.self (columns_at c.args.self.now) c.loop.invariant c.in-Some-column.column c.column.new.self c.loop-test.true c.in-Some-column.ensures

pub returns : goal.returns
returns c = λ all rest e.
    let whole = times_end column_at c.loop.cols c.in-Some.count c.loop.counter c.loop.self (columns_at c.args.self.now) c.loop.invariant c.loop-test.false in
    (read_is c.loop.cols all c.loop.self rest (sym whole ∙ e)).0
