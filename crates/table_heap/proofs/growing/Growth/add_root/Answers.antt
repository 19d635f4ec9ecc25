use Rattle.std.proofs.Common.{◌≡◌, ◌+◌, ◌∷◌, ◌++◌, [], refl, ap, ◌∙◌}
use Rattle.std.specs.Prelude.{None, Some}
use Rattle.table_heap.specs.declared.growing.Growth.{Growth}
use Rattle.table_walk.specs.declared.plan.Spot.TheVariants.{New}
use Rattle.table_heap.proofs.GrowingLemmas.{growing_root}
use Rattle.table_heap.proofs.growing.Growth.add_root.Goals as goal

pub returns-clause-grows : goal.returns-clause-grows
returns-clause-grows c = λ spot count n leaf recent g.
    let root : c.in_ok-root.root ≡ c.args.self.now.claims = c.in_ok-root.ensures.claim in
    let claimed : c.claim.new.self ≡ record c.args.self.now { claims = c.args.self.now.claims + 1 } = c.in_ok-root.ensures.next in
    let last : c.replace-full.result ≡ c.args.self.now.last = c.replace-full.ensures.value ∙ ap (λ (x : Growth). x.last) claimed in
    growing_root spot count n (leaf ∷ []) c.args.self.now c.claim.new.self.claims c.claim.new.self.leaves c.push.new.self c.replace-full.new.dest leaf recent refl g c.requires (ap (λ (x : Growth). x.claims) claimed) (ap (λ (x : Growth). x.leaves) claimed)
    (c.in_ok-push.ensures.ok ∙ (λ k. (claimed k).full ++ record (last k) { next = Some (root k) } ∷ []))
    (c.replace-full.ensures.after ∙ c.root_page-new.ensures ∙ (λ k. record { spot = New (root k); slots = 0; names = []; next = None }))
