-- The pages that were gathered are swapped in, or let go, one after the other from the last on.
use Rattle.std.proofs.Common.{◌≡◌, ℕ, ◌-◌, ◌<◌, inl, inr, cond, List, [], ◌∷◌, ◌++◌, refl, ap, sym, ◌∙◌, subst}
use Rattle.std.proofs.lemmas.Bool.{false≢true}
use Rattle.page_base.specs.declared.numbers.PageId.{PageId}
use Rattle.page_base.specs.Pages.{set_at}
use Rattle.page_base.proofs.PagesLemmas.{cases_page, is_page-other}
use Rattle.page_fmt.specs.Content.{IsPage}
use Rattle.buf_pool.specs.Pool.{without_pin}
use Rattle.buf_pool.specs.Steps.{SameShown, SameHolds}
use Rattle.snap_pages.specs.Shown.{Shown, img, pins, IsPinned}
use Rattle.snap_pages.specs.Views.{KeepsViews}
use Rattle.snap_pages.specs.Dues.{IsPushed}
use Rattle.snap_pages.specs.Steps.{SameSnaps, SamePlaces}
use Rattle.snap_pages.proofs.CallerLemmas.{keeps_on, keeps_none, pushed_on}
use Rattle.revert_pass.specs.Got.{Got, IsGot, has, swapped, ungathered, AreHeld, AreGotPushed, LeavesRest}
use Rattle.revert_pass.proofs.GotLemmas.{IsLastOf, last_of, swap_last, pins_last, has_still, has_it}

-- WHAT NEITHER CHANGES

pub rest_self : (v : Shown) → LeavesRest v v
rest_self v = record { order = refl; files = refl; frames = refl; snaps = record { cat = refl; sets = refl }; places = record { counts = refl; count = refl; places = refl }; views = keeps_none v }

pub rest_on : (a b c : Shown) → LeavesRest a b → LeavesRest b c → LeavesRest a c
rest_on a b c one two = record {
  order = two.order ∙ one.order;
  files = two.files ∙ one.files;
  frames = two.frames ∙ one.frames;
  snaps = record { cat = two.snaps.cat ∙ one.snaps.cat; sets = two.snaps.sets ∙ one.snaps.sets };
  places = record { counts = two.places.counts ∙ one.places.counts; count = two.places.count ∙ one.places.count; places = two.places.places ∙ one.places.places };
  views = keeps_on a b c one.views two.views;
}

pub rest_set : (a b : Shown) → SameHolds a.pool b.pool → SameSnaps a b → SamePlaces a b → KeepsViews a b → LeavesRest a b
rest_set a b holds snaps places views = record { order = holds.order; files = holds.files; frames = holds.frames; snaps = snaps; places = places; views = views }

pub rest_unpinned : (a b : Shown) → SameShown a.pool b.pool → SameSnaps a b → SamePlaces a b → KeepsViews a b → LeavesRest a b
rest_unpinned a b shown snaps places views = record { order = shown.order; files = shown.files; frames = shown.frames; snaps = snaps; places = places; views = views }

-- THE PINS

-- some of the pages still have their pins
pub record Holding (got : Got) (old : Shown) (kept : Got) (v : Shown) : Type 0 where
  pub is : IsGot kept
  pub held : AreHeld kept v
  pub pinned : ungathered kept (pins v) ≡ ungathered got (pins old)
  pub rest : LeavesRest old v

pub holds_all : (got : Got) (old : Shown) → IsGot got → AreHeld got old → Holding got old got old
holds_all got old is held = record { is = is; held = held; pinned = refl; rest = rest_self old }

module _ (got : Got) (old v new : Shown) (front : Got) (p : PageId) (x : List ℕ) where
  pub holds_less : Holding got old (front ++ (p, x) ∷ []) v → pins new ≡ without_pin (pins v) p → LeavesRest v new → Holding got old front new
  holds_less way pinned rest = record {
    is = last.others;
    held = λ q h. elim (cases_page q p) [
      | inl e ↦ absurd (false≢true (sym last.lacks ∙ sym (ap (has front) e) ∙ h))
      | inr ne ↦ subst (λ n. 0 < n) (sym ((λ i. pinned i q) ∙ ap (λ b. cond b (pins v q - 1) (pins v q)) (is_page-other p q ne))) (way.held q (has_still front p x q h))
    ];
    pinned = ap (ungathered front) pinned ∙ sym (pins_last front p x (pins v) last.lacks) ∙ way.pinned;
    rest = rest_on old v new way.rest rest;
  }
    where
      last : IsLastOf front p x
      last = last_of front p x way.is

  -- the last one is pinned
  pub holds_pinned : Holding got old (front ++ (p, x) ∷ []) v → IsPinned v p
  holds_pinned way = way.held p (has_it front p x)

-- THE IMAGES

-- some of the pages still have their old images
pub record Swapping (got : Got) (old : Shown) (kept : Got) (v : Shown) : Type 0 where
  pub holds : Holding got old kept v
  pub pushed : AreGotPushed kept v
  pub images : swapped kept (img v) ≡ swapped got (img old)

pub swaps_all : (got : Got) (old : Shown) → IsGot got → AreHeld got old → AreGotPushed got old → Swapping got old got old
swaps_all got old is held pushed = record { holds = holds_all got old is held; pushed = pushed; images = refl }

module _ (got : Got) (old v new : Shown) (front : Got) (p : PageId) (x : List ℕ) where
  pub swaps_less : Swapping got old (front ++ (p, x) ∷ []) v → img new ≡ set_at (img v) p x → pins new ≡ without_pin (pins v) p → LeavesRest v new → Swapping got old front new
  swaps_less way image pinned rest = record {
    holds = holds_less got old v new front p x way.holds pinned rest;
    pushed = λ q h. pushed_on v new q rest.snaps (way.pushed q (has_still front p x q h));
    images = ap (swapped front) image ∙ sym (swap_last front p x (img v)) ∙ way.images;
  }

  pub swaps_pushed : Swapping got old (front ++ (p, x) ∷ []) v → IsPushed v p
  swaps_pushed way = way.pushed p (has_it front p x)

  pub swaps_page : Swapping got old (front ++ (p, x) ∷ []) v → IsPage x
  swaps_page way = (last_of front p x way.holds.is).page
