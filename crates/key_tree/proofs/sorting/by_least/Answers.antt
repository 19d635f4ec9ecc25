use Rattle.std.proofs.Common.{◌≡◌, ℕ, length, ◌∙◌, ap, arith}
use Rattle.std.specs.BTreeMap.{insert_entry}
use Rattle.key_tree.proofs.SortLemmas.{place_cmp, sorted_more}
use Rattle.key_tree.proofs.sorting.by_least.Goals as goal

pub loop-child-preserved : goal.loop-child-preserved
loop-child-preserved c =
    let long : c.len.result ≡ length c.pop.new.self.items = omega (arith, c.len.ensures, c.pop.new.self.ok.0) in
    sorted_more c.args.children.items c.loop-child.left.items c.pop.new.self.items c.loop-child.by.entries c.insert.new.self.entries c.in-Some.child c.loop-child.invariant c.in-Some.ensures.items
    (c.in_ok-insert.ensures.entries ∙ ap (λ (n : ℕ). insert_entry place_cmp c.loop-child.by.entries (c.in-Some.child.least, n) (c.in-Some.child.page, c.in-Some.child.slot)) long)
