use Rattle.std.proofs.Common.{◌≡◌, ◌+◌, ◌-◌, ◌++◌, ◌∙◌, refl, ap, sym, arith}
use Rattle.load_gen.specs.Script.{update_text, updates_text}
use Rattle.load_gen.proofs.MoreLemmas.{grown, not_grown, updates_none, updates_more}
use Rattle.load_gen.proofs.script.push_updates.Goals as goal

pub loop-number-init : goal.loop-number-init
loop-number-init c =
    let seed = c.args.draws.now.seed in
    record { lines = not_grown c.args.text.now.items (updates_text seed 0) (updates_none seed); seed = refl; taken = omega (arith, c.requires) }

pub loop-number-preserved : goal.loop-number-preserved
loop-number-preserved c =
    let seed = c.args.draws.now.seed in
    let k = c.loop-number.number in
    let same : k + 1 - 1 ≡ (k - 1) + 1 = omega (arith, c.loop-number.auto.number) in
    let at : 1 + (k - 1) ≡ k = omega (arith, c.loop-number.auto.number) in
    let line : c.push_update.new.text.items ≡ c.loop-number.text.items ++ update_text seed k = rw c.loop-number.invariant.seed at c.in_ok-push_update.ensures.line in
    record {
      lines = grown c.args.text.now.items c.loop-number.text.items c.push_update.new.text.items (updates_text seed (k - 1)) (update_text seed k) (updates_text seed (k + 1 - 1)) c.loop-number.invariant.lines line (ap (updates_text seed) same ∙ updates_more seed (k - 1) k at);
      seed = c.in_ok-push_update.ensures.seed ∙ c.loop-number.invariant.seed;
      taken = omega (arith, c.in_ok-push_update.ensures.taken, c.loop-number.invariant.taken);
    }
