use Rattle.std.proofs.Common.{subst}
use Rattle.table_walk.specs.Walk.{IsBad}
use Rattle.table_walk.specs.Answers.{Tells, IsAt}
use Rattle.table_walk.proofs.Exits.{if_ok, if_err}
use Rattle.table_walk.proofs.TableLemmas.{owned_wants, table_not_bad}
use Rattle.table_heap.specs.Heap.{heap_kids, heap_shape, first}
use Rattle.table_heap.proofs.reading.wants.Goals as goal

pub returns-clause-owned : goal.returns-clause-owned
returns-clause-owned c = λ at owns all t shows.
    if_ok c.wants_of.result (λ w tells. owned_wants heap_shape c.args.cols.now at owns (first c.args.root) all c.args.seen.now t w shows (subst (λ s. Tells heap_kids c.args.seen.now s w) c.first.ensures tells)) c.wants_of.ensures.tells

pub returns-clause-whole : goal.returns-clause-whole
returns-clause-whole c = λ at owns all t shows.
    if_err c.wants_of.result (λ e bad. table_not_bad heap_shape c.args.cols.now at owns (first c.args.root) all c.args.seen.now t e shows (subst (λ s. IsAt (IsBad heap_kids c.args.seen.now s) e) c.first.ensures bad)) c.wants_of.ensures.bad
