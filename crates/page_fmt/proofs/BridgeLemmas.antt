-- Pages as lists of slots, and as functions to their bytes, say the same.
use Rattle.std.proofs.Common.{◌≡◌, ℕ, Bool, true, false, cond, ◌==◌, ◌&&◌, List, inl, inr, ap, sym, ◌∙◌, subst}
use Rattle.page_base.specs.declared.numbers.PageId.{PageId}
use Rattle.page_base.specs.Pages.{is_page, set_at}
use Rattle.page_base.specs.Slots.{Slots, with_slot}
use Rattle.page_base.proofs.PagesLemmas.{cases_page, is_page-same, is_page-other}
use Rattle.page_fmt.specs.Spelling.{LastIsFull}
use Rattle.page_fmt.specs.Edits.{edited, slot_at}
use Rattle.page_fmt.specs.Seen.{SlotsAt}
use Rattle.page_fmt.specs.Bridge.{slots_in, AreFull}
use Rattle.page_fmt.proofs.CallerLemmas.{same_slots, slot_at-edited, LastIsFull-edited}

-- the bytes tell the lists
pub same_lists : (at other : SlotsAt) → AreFull at → AreFull other → slots_in at ≡ slots_in other → at ≡ other
same_lists at other full also e = λ t p. same_slots (at p) (other p) (full p) (also p) (λ j. ap (λ (s : Slots). s p j) e) t

-- one slot that is edited
pub slots_in-edited : (at : SlotsAt) (p : PageId) (i : ℕ) (x : List ℕ) → slots_in (set_at at p (edited (at p) i x)) ≡ with_slot (slots_in at) p i x
slots_in-edited at p i x = λ t q j. (elim (cases_page q p) as (λ b. slots_in (set_at at p (edited (at p) i x)) q j ≡ with_slot (slots_in at) p i x q j) [
  | inl e ↦
      let same : is_page p q ≡ true = ap (is_page p) e ∙ is_page-same p in
      ap (λ (b : Bool). slot_at (cond b (edited (at p) i x) (at q)) j) same
      ∙ (λ k. slot_at-edited (at p) i x k j)
      ∙ ap (λ (r : PageId). cond (i == j) x (slot_at (at r) j)) (sym e)
      ∙ sym (ap (λ (b : Bool). cond (b && i == j) x (slot_at (at q) j)) same)
  | inr ne ↦
      let other : is_page p q ≡ false = is_page-other p q ne in
      ap (λ (b : Bool). slot_at (cond b (edited (at p) i x) (at q)) j) other
      ∙ sym (ap (λ (b : Bool). cond (b && i == j) x (slot_at (at q) j)) other)
]) t

pub AreFull-edited : (at : SlotsAt) (p : PageId) (i : ℕ) (x : List ℕ) → AreFull at → AreFull (set_at at p (edited (at p) i x))
AreFull-edited at p i x full q = elim (cases_page q p) [
  | inl e ↦
      let same : is_page p q ≡ true = ap (is_page p) e ∙ is_page-same p in
      subst (λ (b : Bool). LastIsFull (cond b (edited (at p) i x) (at q))) (sym same) (LastIsFull-edited (at p) i x (full p))
  | inr ne ↦
      let other : is_page p q ≡ false = is_page-other p q ne in
      subst (λ (b : Bool). LastIsFull (cond b (edited (at p) i x) (at q))) (sym other) (full q)
]
