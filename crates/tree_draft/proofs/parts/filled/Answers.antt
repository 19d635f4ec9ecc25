use Rattle.std.proofs.Common.{◌∙◌, ◌≡◌, ◌++◌, ◌∷◌, [], ◌-◌, ℕ, sym, ap, arith, append-nil, append_assoc, length}
use Rattle.tree_laws.specs.Parts.{fill}
use Rattle.tree_draft.proofs.PartLemmas.{none_left, glued, filled_begin, filled_more, filled_next, filled_end}
use Rattle.tree_draft.proofs.parts.filled.Goals as goal

pub loop-item-init : goal.loop-item-init
loop-item-init g c = (λ rest. filled_begin g.T.Takes.size c.args.all rest ∙ (λ i. glued (sym c.new-parts.ensures.items i) (sym c.new-part.ensures i) (fill g.T.Takes.size c.args.all c.args.all rest)), sym c.into_iter-item-iterator.ensures.into_iter_gives.0)

pub loop-item-preserved-then-size-left : goal.loop-item-preserved-then-size-left
loop-item-preserved-then-size-left g c = (
  filled_more g.T.Takes.size c.args.all c.loop-item.yielded c.loop-item.parts.items c.loop-item.part c.push.new.self c.loop-item.left (c.loop-item.left - c.size-size.result) c.in-Some.item c.loop-item.invariant.0 (omega (arith, c.if-size-left.true, c.size-size.ensures)) (ap (λ (n : ℕ). c.loop-item.left - n) c.size-size.ensures) c.in_ok-push.ensures.ok,
  c.loop-item.invariant.1 ∙ ap (λ xs. c.loop-item.yielded ++ xs) c.in-Some.ensures.steps.0 ∙ sym (append_assoc c.loop-item.yielded (c.in-Some.item ∷ []) c.next.new.self.rest.items),
)

pub loop-item-preserved : goal.loop-item-preserved
loop-item-preserved g c = (
  filled_next g.T.Takes.size c.args.all c.loop-item.yielded c.loop-item.parts.items c.push-in-loop-item.new.self.items c.loop-item.part c.push-in-loop-item-2.new.self c.loop-item.left c.saturating_sub-left.result c.in-Some.item c.loop-item.invariant.0 (omega (arith, c.if-size-left.false, c.size-size.ensures))
      (omega (arith, c.saturating_sub-left.ensures, c.size-size.ensures)) c.in_ok-push-2.ensures.items (c.in_ok-push-3.ensures.ok ∙ ap (λ xs. xs ++ c.in-Some.item ∷ []) c.new-part-in-loop-item.ensures),
  c.loop-item.invariant.1 ∙ ap (λ xs. c.loop-item.yielded ++ xs) c.in-Some.ensures.steps.0 ∙ sym (append_assoc c.loop-item.yielded (c.in-Some.item ∷ []) c.next.new.self.rest.items),
)

pub returns : goal.returns
returns g c =
    let none : length c.loop-item.item-iterator.rest.items ≡ 0 = omega (arith, c.in-None.ensures.steps.0, c.loop-item.item-iterator.rest.ok.0) in
    let e : c.loop-item.yielded ≡ c.args.items.items = sym (c.loop-item.invariant.1 ∙ ap (λ xs. c.loop-item.yielded ++ xs) (none_left c.loop-item.item-iterator.rest.items none) ∙ append-nil c.loop-item.yielded) in
    c.in_ok-push-4.ensures.items ∙ filled_end g.T.Takes.size c.args.all c.loop-item.yielded c.loop-item.parts.items c.loop-item.part c.loop-item.left c.loop-item.invariant.0 ∙ ap (fill g.T.Takes.size c.args.all c.args.all) e
