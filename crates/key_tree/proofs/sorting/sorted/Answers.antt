use Rattle.std.proofs.Common.{◌++◌, List, map, ◌∙◌, ap, sym, append-nil}
use Rattle.key_tree.specs.Sorting.{child_in}
use Rattle.key_tree.proofs.SortLemmas.{Entry}
use Rattle.key_tree.proofs.sorting.sorted.Goals as goal

pub returns : goal.returns
returns c =
    let gives = c.into_iter-least-iterator.ensures.into_iter_gives in
    sym (append-nil c.loop-least.sorted.items) ∙ ap (λ (es : List Entry). c.loop-least.sorted.items ++ map child_in es) (sym c.in-None.ensures.steps.0) ∙ sym c.loop-least.invariant
    ∙ ap (map child_in) gives.0 ∙ c.in_ok-items.ensures
