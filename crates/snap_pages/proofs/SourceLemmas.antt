-- The source's pages are fetched, pinned, written back or changed, and the snapshots stay.
use Rattle.std.proofs.Common.{◌≡◌, ℕ, List, Bool, true, false, cond, ◌==◌, ◌&&◌, inl, inr, ap, refl, sym, ◌∙◌}
use Rattle.page_base.specs.declared.numbers.PageId.{PageId}
use Rattle.page_base.specs.Pages.{is_page, set_at}
use Rattle.page_base.specs.Slots.{with_slot}
use Rattle.page_base.proofs.PagesLemmas.{cases_page, is_page-same, is_page-other}
use Rattle.page_dev.specs.Files.{Files}
use Rattle.page_fmt.specs.Content.{content}
use Rattle.page_fmt.specs.Edits.{edited, slot_at}
use Rattle.page_fmt.proofs.CallerLemmas.{slot_at-edited}
use Rattle.buf_pool.specs.Pool.{Pooled, img as pool_img}
use Rattle.buf_pool.specs.Steps.{Stays, PinsOnce, SameShown, SameHolds}
use Rattle.snap_pages.specs.Shown.{Shown}
use Rattle.snap_pages.specs.Views.{KeepsViews}
use Rattle.snap_pages.specs.Dues.{IsPushed}
use Rattle.snap_pages.specs.Slots.{slots_of, SetsSlot}
use Rattle.snap_pages.proofs.ViewLemmas.{same_images, keeps_image}

module _ (v : Shown) (pool : Pooled) where
  abbrev pub with_pool : Shown
  with_pool = record v { pool = pool }

  pub stays_keeps : Stays v.pool pool → KeepsViews v with_pool
  stays_keeps stays = same_images v with_pool (record { cat = refl; sets = refl }) stays.tells stays.images

  pub once_keeps : (p : PageId) → PinsOnce p v.pool pool → KeepsViews v with_pool
  once_keeps p once = same_images v with_pool (record { cat = refl; sets = refl }) once.tells once.images

  pub shown_keeps : SameShown v.pool pool → KeepsViews v with_pool
  shown_keeps same = same_images v with_pool (record { cat = refl; sets = refl }) (ap (λ (f : Files). f.tells) same.files) (λ _. same.images)

-- another image of a page that every snapshot has
pub change_keeps : (v : Shown) (pool : Pooled) (p : PageId) (image : List ℕ) → IsPushed v p → pool_img pool ≡ set_at (pool_img v.pool) p image → SameHolds v.pool pool → KeepsViews v (with_pool v pool)
change_keeps v pool p image pushed images holds = keeps_image v (with_pool v pool) p image pushed images (record { cat = refl; sets = refl }) (ap (λ (f : Files). f.tells) holds.files)

slots_set : (images : PageId → List ℕ) (p : PageId) (new : List ℕ) (i : ℕ) (x : List ℕ) → slot_at (content new) ≡ (λ j. cond (i == j) x (slot_at (content (images p)) j)) → slots_of (set_at images p new) ≡ with_slot (slots_of images) p i x
slots_set images p new i x is = λ t q j. (elim (cases_page q p) as (λ c. slots_of (set_at images p new) q j ≡ with_slot (slots_of images) p i x q j) [
  | inl e ↦
      let same : is_page p q ≡ true = ap (is_page p) e ∙ is_page-same p in
      ap (λ (b : Bool). slot_at (content (cond b new (images q))) j) same
      ∙ (λ k. is k j)
      ∙ ap (λ (r : PageId). cond (i == j) x (slot_at (content (images r)) j)) (sym e)
      ∙ sym (ap (λ (b : Bool). cond (b && i == j) x (slot_at (content (images q)) j)) same)
  | inr ne ↦
      let other : is_page p q ≡ false = is_page-other p q ne in
      ap (λ (b : Bool). slot_at (content (cond b new (images q))) j) other
      ∙ sym (ap (λ (b : Bool). cond (b && i == j) x (slot_at (content (images q)) j)) other)
]) t

-- an image whose slots are another's but for one
pub slots_edited : (images : PageId → List ℕ) (p : PageId) (new : List ℕ) (i : ℕ) (x : List ℕ) → content new ≡ edited (content (images p)) i x → slots_of (set_at images p new) ≡ with_slot (slots_of images) p i x
slots_edited images p new i x is = slots_set images p new i x (ap (λ s. slot_at s) is ∙ slot_at-edited (content (images p)) i x)

-- one slot was edited
pub slots_changed : (v : Shown) (pool : Pooled) (p : PageId) (i : ℕ) (x : List ℕ) → pool_img pool ≡ set_at (pool_img v.pool) p (pool_img pool p) → content (pool_img pool p) ≡ edited (content (pool_img v.pool p)) i x → SetsSlot v (with_pool v pool) p i x
slots_changed v pool p i x images is =
    ap slots_of images ∙ slots_edited (pool_img v.pool) p (pool_img pool p) i x is
