use Rattle.std.proofs.Common.{◌≡◌, ℕ, ◌-◌, ◌*◌, ◌+◌, Some, cond, ap, sym, ◌∙◌, arith, zero, suc, ◌≢◌, refl}
use Rattle.page_fmt.specs.Faults.{is_wrong, first_wrong, newer}
use Rattle.page_fmt.specs.Content.{le16_at, offsets_at}
use Rattle.page_fmt.proofs.CheckLemmas.{first_wrong-step}
use Rattle.page_fmt.proofs.checking.wrong_offset.Goals as goal
use Rattle.page_fmt.proofs.checking.wrong_offset.Goals.{then-start-eq0, else-start-eq0}

newer_zero : (before s : ℕ) → s ≡ 0 → newer before s ≡ before
newer_zero before zero e = refl
newer_zero before (suc s) e = absurd (omega arith)

newer_some : (before s : ℕ) → s ≢ 0 → newer before s ≡ s
newer_some before zero e = absurd (e refl)
newer_some before (suc s) e = refl

pub returns-then-is_wrong-clause-value : goal.returns-then-is_wrong-clause-value
returns-then-is_wrong-clause-value c =
    let start : c.number-start.result ≡ le16_at c.args.page.now (8190 - 2 * c.loop-i.i) = c.number-start.ensures in
    let step = first_wrong-step c.args.page.now c.args.end c.loop-i.before c.loop-i.i c.args.count c.is_wrong.result c.loop-i-test.true
    (λ os e. c.is_wrong.ensures os e ∙ ap (λ s. is_wrong c.args.end c.loop-i.before s os) start) in
    sym (ap (λ b. cond b (Some (8190 - 2 * c.loop-i.i)) (first_wrong c.args.end (newer c.loop-i.before (le16_at c.args.page.now (8190 - 2 * c.loop-i.i))) (8190 - 2 * (c.loop-i.i + 1)) (offsets_at c.args.page.now (8190 - 2 * (c.loop-i.i + 1)) (c.args.count - (c.loop-i.i + 1))))) c.if-is_wrong.true) ∙ sym step ∙ c.loop-i.invariant

pub loop-i-preserved : goal.loop-i-preserved
loop-i-preserved c =
    let start : c.number-start.result ≡ le16_at c.args.page.now (8190 - 2 * c.loop-i.i) = c.number-start.ensures in
    let step = first_wrong-step c.args.page.now c.args.end c.loop-i.before c.loop-i.i c.args.count c.is_wrong.result c.loop-i-test.true
    (λ os e. c.is_wrong.ensures os e ∙ ap (λ s. is_wrong c.args.end c.loop-i.before s os) start) in
    let next : c.if-start-eq0.before ≡ newer c.loop-i.before (le16_at c.args.page.now (8190 - 2 * c.loop-i.i)) =
    elim c.if-start-eq0.branch [
      | then-start-eq0 w ↦ w.before-is ∙ sym (newer_zero c.loop-i.before c.number-start.result w.if-start-eq0.true) ∙ ap (newer c.loop-i.before) start
      | else-start-eq0 w ↦ w.before-is ∙ sym (newer_some c.loop-i.before c.number-start.result w.if-start-eq0.false) ∙ ap (newer c.loop-i.before) start
    ] in
    ap (λ k. first_wrong c.args.end k (8190 - 2 * (c.loop-i.i + 1)) (offsets_at c.args.page.now (8190 - 2 * (c.loop-i.i + 1)) (c.args.count - (c.loop-i.i + 1)))) next
    ∙ sym (ap (λ b. cond b (Some (8190 - 2 * c.loop-i.i)) (first_wrong c.args.end (newer c.loop-i.before (le16_at c.args.page.now (8190 - 2 * c.loop-i.i))) (8190 - 2 * (c.loop-i.i + 1)) (offsets_at c.args.page.now (8190 - 2 * (c.loop-i.i + 1)) (c.args.count - (c.loop-i.i + 1))))) c.if-is_wrong.false) ∙ sym step ∙ c.loop-i.invariant
