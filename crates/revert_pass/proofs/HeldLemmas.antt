-- A page more is among those that are kept.
use Rattle.std.proofs.Common.{◌≡◌, ◌≢◌, ℕ, ◌+◌, ◌<◌, inl, inr, Bool, true, false, cond, ◌||◌, ap, sym, ◌∙◌, subst, arith}
use Rattle.page_base.specs.declared.numbers.PageId.{PageId}
use Rattle.page_base.specs.declared.numbers.SnapNo.{SnapNo}
use Rattle.page_base.proofs.PagesLemmas.{cases_page, is_page-same, is_page-other}
use Rattle.buf_pool.specs.Pool.{with_pin}
use Rattle.snap_pages.specs.Shown.{Shown, pins, IsPinned}
use Rattle.snap_pages.specs.Dues.{IsPushed}
use Rattle.snap_pages.proofs.PinLemmas.{pin_unpin, pinned_more}
use Rattle.revert_pass.specs.Got.{Got, has, ungathered, AreHeld, AreGotPushed}
use Rattle.revert_pass.specs.Gathers.{Adds}
use Rattle.revert_pass.proofs.GotLemmas.{has_last, pins_last}

or_no : (a : Bool) → (a || false) ≡ a
or_no true = λ i. true
or_no false = λ i. false

module _ (s : SnapNo) (p : PageId) (old new : Shown) (got more : Got) (adds : Adds s p old got more) where
  -- what is kept is that page, or was kept
  was_kept : (q : PageId) → q ≢ p → has more q ≡ true → has got q ≡ true
  was_kept q ne h =
      sym (ap (λ (g : Got). has g q) adds.is ∙ has_last got p adds.image q ∙ ap (λ b. has got q || b) (is_page-other p q ne) ∙ or_no (has got q)) ∙ h

  pub held_more : pins new ≡ with_pin (pins old) p → AreHeld got old → AreHeld more new
  held_more pinned held q h = elim (cases_page q p) [
    | inl e ↦
        let here : with_pin (pins old) p p ≡ pins old p + 1 = ap (λ b. cond b (pins old p + 1) (pins old p)) (is_page-same p) in
        subst (λ (x : PageId). IsPinned new x) (sym e) (subst (λ n. 0 < n) (sym ((λ i. pinned i p) ∙ here)) (omega arith))
    | inr ne ↦ pinned_more (pins old) (pins new) p pinned q (held q (was_kept q ne h))
  ]

  pub pushed_more : AreGotPushed got new → IsPushed new p → AreGotPushed more new
  pushed_more pushed is q h = elim (cases_page q p) [
    | inl e ↦ subst (λ (x : PageId). IsPushed new x) (sym e) is
    | inr ne ↦ pushed q (was_kept q ne h)
  ]

  pub pins_let_go : (f : PageId → ℕ) → has got p ≡ false → ungathered more (with_pin f p) ≡ ungathered got f
  pins_let_go f lacks =
      ap (λ (g : Got). ungathered g (with_pin f p)) adds.is
      ∙ pins_last got p adds.image (with_pin f p) lacks
      ∙ ap (ungathered got) (pin_unpin f p)
