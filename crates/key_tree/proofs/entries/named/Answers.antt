use Rattle.std.proofs.Common.{◌≢◌, ◌<◌, length, get_or, ◌∙◌, ap, sym, arith, []}
use Rattle.page_fmt.specs.Seen.{Looked}
use Rattle.table_walk.proofs.VisitLemmas.{slot_short, is_something}
use Rattle.tree_laws.specs.Kids.{child_at}
use Rattle.key_tree.proofs.EntryLemmas.{named_more, named_end}
use Rattle.key_tree.proofs.entries.named.Goals as goal

pub child_at-requires-clause-short : goal.child_at-requires-clause-short
child_at-requires-clause-short c =
    let d : Looked = record { page = c.args.from; slots = [] } in
    let short = slot_short (get_or c.args.seen.now c.args.i d).slots c.loop-j.j (c.slots-j-end.ensures.fits d) in
    let same = ap length (c.slot-bytes.ensures d) in
    omega arith

pub loop-j-preserved : goal.loop-j-preserved
loop-j-preserved c = λ d.
    let lt : c.loop-j.j < length (get_or c.args.seen.now c.args.i d).slots = omega (arith, c.slots-j-end.ensures.count d, c.loop-j-test.true) in
    let some : get_or (get_or c.args.seen.now c.args.i d).slots c.loop-j.j [] ≢ [] = λ none. is_something c.slot-bytes.result.now c.is_empty.result c.is_empty.ensures c.if-is_empty.false (c.slot-bytes.ensures d ∙ none) in
    named_more c.args.keys.now (get_or c.args.seen.now c.args.i d).slots c.loop-j.j c.loop-j.children.items c.push.new.self.items c.in-Some.child (c.loop-j.invariant d) lt some
    (ap (child_at c.args.keys.now c.loop-j.j) (sym (c.slot-bytes.ensures d)) ∙ sym c.in_ok-child.ensures ∙ c.in-Some.is) c.in_ok-push-in-Some.ensures.items

pub returns-clause-ok : goal.returns-clause-ok
returns-clause-ok c = λ d. named_end c.args.keys.now (get_or c.args.seen.now c.args.i d).slots c.loop-j.j c.loop-j.children.items (c.loop-j.invariant d) (omega (arith, c.slots-j-end.ensures.count d, c.loop-j-test.false))
