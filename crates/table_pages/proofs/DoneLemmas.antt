-- Edits one after the other, and one more behind them.
use Rattle.std.proofs.Common.{◌≡◌, ◌≢◌, ℕ, ◌+◌, ◌<◌, ◌≤◌, Bool, true, false, cond, ◌==◌, ◌&&◌, inl, inr, List, [], ◌∷◌, ◌++◌, length, refl, ap, sym, ◌∙◌, arith}
use Rattle.std.specs.List.{AllByRecursion}
use Rattle.page_base.specs.declared.numbers.PageId.{PageId}
use Rattle.page_base.specs.Pages.{is_page, set_at}
use Rattle.page_base.specs.Slots.{Slots, with_slot}
use Rattle.page_base.proofs.PagesLemmas.{cases_page, is_page-same, is_page-other}
use Rattle.page_fmt.specs.Edits.{edited, slot_at}
use Rattle.page_fmt.proofs.CallerLemmas.{slot_at-edited}
use Rattle.table_pages.specs.declared.edit.Edit.{Edit}
use Rattle.table_pages.specs.Edits.{done, HasRoom, FitIn, Change}

-- the slots of each page
abbrev pub Contents : Type 0
Contents = PageId → List (List ℕ)

-- the slots of pages after all edits
abbrev pub after : List Edit → Contents → Contents
after [] c = c
after (e ∷ es) c = after es (set_at c e.page (edited (c e.page) e.slot e.bytes))

-- the slots of pages as a function
abbrev pub slots_in : Contents → Slots
slots_in c p = slot_at (c p)

-- one edit, seen as slots
edit_once : (c : Contents) (p : PageId) (i : ℕ) (x : List ℕ) → slots_in (set_at c p (edited (c p) i x)) ≡ with_slot (slots_in c) p i x
edit_once c p i x = λ t q j. (elim (cases_page q p) as (λ b. slots_in (set_at c p (edited (c p) i x)) q j ≡ with_slot (slots_in c) p i x q j) [
  | inl e ↦
      let same : is_page p q ≡ true = ap (is_page p) e ∙ is_page-same p in
      ap (λ (b : Bool). slot_at (cond b (edited (c p) i x) (c q)) j) same
      ∙ (λ k. slot_at-edited (c p) i x k j)
      ∙ ap (λ (r : PageId). cond (i == j) x (slot_at (c r) j)) (sym e)
      ∙ sym (ap (λ (b : Bool). cond (b && i == j) x (slot_at (c q) j)) same)
  | inr ne ↦
      let other : is_page p q ≡ false = is_page-other p q ne in
      ap (λ (b : Bool). slot_at (cond b (edited (c p) i x) (c q)) j) other
      ∙ sym (ap (λ (b : Bool). cond (b && i == j) x (slot_at (c q) j)) other)
]) t

-- both say the same
pub slots_after : (es : List Edit) (c : Contents) → slots_in (after es c) ≡ done es (slots_in c)
slots_after [] c = refl
slots_after (e ∷ es) c = slots_after es (set_at c e.page (edited (c e.page) e.slot e.bytes)) ∙ ap (done es) (edit_once c e.page e.slot e.bytes)

-- ONE MORE EDIT AT THE END

-- the slots after one more edit
pub done_more : (es : List Edit) (e : Edit) (s : Slots) → done (es ++ e ∷ []) s ≡ with_slot (done es s) e.page e.slot e.bytes
done_more [] e s = refl
done_more (d ∷ es) e s = done_more es e (with_slot s d.page d.slot d.bytes)

-- the same of lists of slots
pub after_more : (es : List Edit) (e : Edit) (c : Contents) → after (es ++ e ∷ []) c ≡ set_at (after es c) e.page (edited (after es c e.page) e.slot e.bytes)
after_more [] e c = refl
after_more (d ∷ es) e c = after_more es e (set_at c d.page (edited (c d.page) d.slot d.bytes))

-- one more edit that fits
pub fit_more : (es : List Edit) (e : Edit) (c : Contents) → FitIn c es → HasRoom (after es c e.page) e → FitIn c (es ++ e ∷ [])
fit_more [] e c fits room = (room, tt)
fit_more (d ∷ es) e c fits room = (fits.0, fit_more es e (set_at c d.page (edited (c d.page) d.slot d.bytes)) fits.1 room)

-- one more edit that changes its slot
pub change_more : (es : List Edit) (e : Edit) (s : Slots) → Change s es → e.bytes ≢ done es s e.page e.slot → Change s (es ++ e ∷ [])
change_more [] e s changes ne = (ne, tt)
change_more (d ∷ es) e s changes ne = (changes.0, change_more es e (with_slot s d.page d.slot d.bytes) changes.1 ne)

-- what holds of each edit
pub each_more : (P : Edit → Type 0) (es : List Edit) (e : Edit) → AllByRecursion P es → P e → AllByRecursion P (es ++ e ∷ [])
each_more P [] e each here = (here, tt)
each_more P (d ∷ es) e each here = (each.0, each_more P es e each.1 here)
