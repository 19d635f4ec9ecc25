use Rattle.std.proofs.Common.{List, subst}
use Rattle.page_base.specs.declared.value.Value.{Value}
use Rattle.table_heap.specs.Leaves.{cut_keys, put_rows}
use Rattle.table_heap.specs.Places.{IsDraft}
use Rattle.table_heap.proofs.planning.drafted.Goals as goal

pub returns-clause-draft : goal.returns-clause-draft
returns-clause-draft c = λ d leaves slots rows apart.
    let read = c.in_ok-draft.ensures.draft d leaves slots rows apart in
    let cut = c.in_ok-cut_all.ensures c.args.cols.now leaves read in
    let put = c.in_ok-put_all.ensures (cut_keys c.args.cols.now c.as_slice.result.now leaves) cut in
    subst (λ (rs : List (List Value)). IsDraft c.args.cols.now (put_rows c.args.cols.now rs (cut_keys c.args.cols.now c.args.cut.now leaves)) c.put_all.new.self.leaves.items c.put_all.new.self.places) c.as_slice-2.ensures
    (subst (λ (ks : List (List Value)). IsDraft c.args.cols.now (put_rows c.args.cols.now c.as_slice-2.result.now (cut_keys c.args.cols.now ks leaves)) c.put_all.new.self.leaves.items c.put_all.new.self.places) c.as_slice.ensures put)
