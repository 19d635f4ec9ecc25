-- The source's pages after one image changed.
use Rattle.std.proofs.Common.{◌≡◌, ℕ, inl, inr, Bool, true, false, cond, ◌==◌, ◌&&◌, List, refl, ap, sym, ◌∙◌}
use Rattle.page_base.specs.declared.numbers.PageId.{PageId}
use Rattle.page_base.specs.Pages.{with_page, blank, is_page, set_at}
use Rattle.page_base.specs.Slots.{with_slot}
use Rattle.page_base.proofs.PagesLemmas.{page_or-with_page_same, with_page-same, shape-with_page, cases_page, image_at-with_page, is_page-same, is_page-other}
use Rattle.page_fmt.specs.Content.{content}
use Rattle.page_fmt.specs.Edits.{edited, slot_at}
use Rattle.page_fmt.proofs.CallerLemmas.{slot_at-edited}
use Rattle.early_pages.specs.Shown.{Shown, img, counts, IsThere, IsWhole}
use Rattle.early_pages.specs.Views.{KeepsViews, IsPushed}
use Rattle.early_pages.specs.Slots.{slots_of}
use Rattle.early_pages.proofs.MapLemmas.{has_page}
use Rattle.early_pages.proofs.ViewLemmas.{keeps_image, whole_image}

-- only this page's image differs
abbrev pub with_image : Shown → PageId → List ℕ → Shown
with_image v p image = record v { images = with_page v.images p image }

module _ (v : Shown) (p : PageId) (there : IsThere v p) (new : List ℕ) where
  pub now_is : img (with_image v p new) p ≡ new
  now_is = page_or-with_page_same v.images p new blank (has_page v.images p there)

  pub images_set : img (with_image v p new) ≡ set_at (img v) p new
  images_set = image_at-with_page v.images p new (has_page v.images p there)

  pub image_keeps : IsPushed v p → KeepsViews v (with_image v p new)
  image_keeps pushed = keeps_image v (with_image v p new) p new pushed images_set refl

pub image_counts : (v : Shown) (p : PageId) (new : List ℕ) → counts (with_image v p new) ≡ counts v
image_counts v p new = shape-with_page v.images p new

pub image_whole : (v : Shown) (p : PageId) (new : List ℕ) → IsWhole v → IsWhole (with_image v p new)
image_whole v p new whole = whole_image v (with_image v p new) (image_counts v p new) refl whole

-- the image that was there
pub image_same : (v : Shown) (p : PageId) (old new : List ℕ) → old ≡ img v p → new ≡ old → with_image v p new ≡ v
image_same v p old new at same = ap (λ pages. record v { images = pages }) (with_page-same v.images p new blank (sym at ∙ sym same))

slots_set : (images : PageId → List ℕ) (p : PageId) (new : List ℕ) (i : ℕ) (x : List ℕ) → slot_at (content new) ≡ (λ j. cond (i == j) x (slot_at (content (images p)) j)) → slots_of (set_at images p new) ≡ with_slot (slots_of images) p i x
slots_set images p new i x is = λ t q j. (elim (cases_page q p) as (λ c. slots_of (set_at images p new) q j ≡ with_slot (slots_of images) p i x q j) [
  | inl e ↦
      let same : is_page p q ≡ true = ap (is_page p) e ∙ is_page-same p in
      ap (λ (b : Bool). slot_at (content (cond b new (images q))) j) same
      ∙ (λ k. is k j)
      ∙ ap (λ (r : PageId). cond (i == j) x (slot_at (content (images r)) j)) (sym e)
      ∙ sym (ap (λ (b : Bool). cond (b && i == j) x (slot_at (content (images q)) j)) same)
  | inr ne ↦
      let other : is_page p q ≡ false = is_page-other p q ne in
      ap (λ (b : Bool). slot_at (content (cond b new (images q))) j) other
      ∙ sym (ap (λ (b : Bool). cond (b && i == j) x (slot_at (content (images q)) j)) other)
]) t

-- one slot was edited
pub slots_changed : (v : Shown) (p : PageId) (old new : List ℕ) (i : ℕ) (x : List ℕ) → IsThere v p → old ≡ img v p → content new ≡ edited (content old) i x → slots_of (img (with_image v p new)) ≡ with_slot (slots_of (img v)) p i x
slots_changed v p old new i x there at is =
    ap slots_of (images_set v p there new)
    ∙ slots_set (img v) p new i x (ap (λ s. slot_at s) (is ∙ ap (λ o. edited (content o) i x) at) ∙ slot_at-edited (content (img v p)) i x)
