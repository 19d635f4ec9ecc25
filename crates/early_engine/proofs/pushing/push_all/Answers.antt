use Rattle.std.proofs.Common.{inl, inr, refl, subst, arith}
use Rattle.std.proofs.lemmas.Bool.{cases_eq}
use Rattle.early_pages.specs.Views.{IsDue}
use Rattle.early_engine.proofs.PushLemmas.{pushes_refl, pushes_trans, leaves_of, turns_none, turns_trans}
use Rattle.early_engine.proofs.pushing.push_all.Goals as goal

pub loop-s-init : goal.loop-s-init
loop-s-init g c = record { pushes = pushes_refl c.args.pages.now; turns = turns_none c.args.ledger.now c.args.pages.now c.args.pages.now refl refl; room = c.requires.room; done = λ k lt due. omega (arith, lt) }

pub loop-s-preserved : goal.loop-s-preserved
loop-s-preserved g c =
    let inv = c.loop-s.invariant in
    let e = c.push_if_due.ensures in
    record {
      pushes = pushes_trans c.args.pages.now c.loop-s.pages c.push_if_due.new.pages inv.pushes e.pushes;
      turns = turns_trans c.args.ledger.now c.loop-s.ledger c.push_if_due.new.ledger c.args.pages.now c.loop-s.pages c.push_if_due.new.pages (leaves_of c.args.pages.now c.loop-s.pages inv.pushes) (leaves_of c.loop-s.pages c.push_if_due.new.pages e.pushes) inv.turns e.turns;
      room = let r = e.turns.room in let f = e.turns.fewer in let h = inv.room in omega (arith, r, f, h);
      done = λ k lt due. elim (cases_eq k c.loop-s.s) [
        | inl same ↦ e.done (subst (λ n. IsDue c.push_if_due.new.pages c.args.p (record { 0 = n })) same due)
        | inr ne ↦ inv.done k (omega (arith, lt, ne)) (e.dues.each (record { 0 = k }) due)
      ];
    }
