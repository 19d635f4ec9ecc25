use Rattle.std.proofs.Common.{◌≡◌, ◌<◌, ◌++◌, ◌∷◌, [], length, reverse, get_or, sym, ◌∙◌, arith, false}
use Rattle.std.proofs.lemmas.List.{get_or_default}
use Rattle.page_fmt.specs.Seen.{Looked}
use Rattle.table_walk.specs.declared.refusal.SeenRefusal.{SeenRefusal}
use Rattle.table_walk.specs.Walk.{IsBad}
use Rattle.table_walk.specs.Answers.{IsAt}
use Rattle.table_walk.proofs.Exits.{handed_on}
use Rattle.table_walk.proofs.WalkLemmas.{unmarked-set, stack_next, stack_more, step, on_bad}
use Rattle.table_walk.proofs.layout.walk_with.Goals as goal

pub returns-in_err-next-clause-bad : goal.returns-in_err-next-clause-bad
returns-in_err-next-clause-bad g c =
    let todo : reverse c.loop-visit.todo.items ≡ c.in-Some.visit ∷ reverse c.pop.new.self.items = stack_next c.loop-visit.todo.items c.pop.new.self.items c.in-Some.visit c.in-Some.ensures.items in
    let Bad : SeenRefusal → Type 0 = IsAt (IsBad (g.L.Layout.kids c.args.layout.now) c.args.seen.now c.args.start) in
    handed_on Bad c.from_residual-in_err-next.result c.in_err-next.field-0.0 c.from_residual-in_err-next.ensures.1
    (on_bad (g.L.Layout.kids c.args.layout.now) c.args.seen.now c.args.start c.loop-visit.done.items (reverse c.loop-visit.todo.items) (reverse c.pop.new.self.items) c.in-Some.visit c.loop-visit.marked.items c.in-Some-place.i
    c.loop-visit.invariant todo c.in-Some-place.ensures.some c.in-Some-place.ensures.there c.in_err-next.field-0.0 c.in_err-next.ensures.bad)

pub loop-visit-smaller : goal.loop-visit-smaller
loop-visit-smaller g c =
    let lt : c.in-Some-place.i < length c.loop-visit.marked.items = omega (arith, c.in-Some-place.ensures.there, c.loop-visit.invariant.size) in
    let new : get_or c.loop-visit.marked.items c.in-Some-place.i false ≡ false = get_or_default c.loop-visit.marked.items c.in-Some-place.i false c.index.result.now lt ∙ sym c.index.ensures ∙ c.if-index.false in
    unmarked-set c.loop-visit.marked.items c.in-Some-place.i lt new

pub loop-visit-preserved : goal.loop-visit-preserved
loop-visit-preserved g c =
    let lt : c.in-Some-place.i < length c.loop-visit.marked.items = omega (arith, c.in-Some-place.ensures.there, c.loop-visit.invariant.size) in
    let new : get_or c.loop-visit.marked.items c.in-Some-place.i false ≡ false = get_or_default c.loop-visit.marked.items c.in-Some-place.i false c.index.result.now lt ∙ sym c.index.ensures ∙ c.if-index.false in
    let d : Looked = record { page = c.args.start.page; slots = [] } in
    let todo : reverse c.loop-visit.todo.items ≡ c.in-Some.visit ∷ reverse c.pop.new.self.items = stack_next c.loop-visit.todo.items c.pop.new.self.items c.in-Some.visit c.in-Some.ensures.items in
    let more : reverse c.append.new.self.items ≡ c.in_ok-next.next.items ++ reverse c.pop.new.self.items = stack_more c.append.new.self.items c.pop.new.self.items c.in_ok-next.next.items c.reverse.new.self.items c.in_ok-append.ensures.items c.reverse.ensures.items in
    step (g.L.Layout.kids c.args.layout.now) c.args.seen.now c.args.start c.loop-visit.done.items (reverse c.loop-visit.todo.items) (reverse c.pop.new.self.items) c.in_ok-next.next.items c.push-in-Some.new.self.items (reverse c.append.new.self.items) c.in-Some.visit c.loop-visit.marked.items c.in-Some-place.i d
    c.loop-visit.invariant todo c.in-Some-place.ensures.some c.in-Some-place.ensures.there new (c.in_ok-next.ensures.ok d) c.in_ok-push-2.ensures.items more
