-- One frame is written in place.
use Rattle.std.proofs.Common.{◌≡◌, ◌+◌, ◌-◌, arith, false, cond, IsTrue, Some, is_some, refl, sym, ap, ◌∙◌, subst}
use Rattle.std.specs.Option.{option_map_or}
use Rattle.std.specs.Map.{lookup, set_value}
use Rattle.page_base.specs.declared.numbers.PageId.{PageId}
use Rattle.page_base.specs.Pages.{image_at, is_page, set_at}
use Rattle.page_base.proofs.PagesLemmas.{is_page-same, is_page-true}
use Rattle.page_fmt.specs.Content.{IsPage}
use Rattle.buf_pool.specs.declared.frame.Frame.{Frame}
use Rattle.buf_pool.specs.Pool.{Pooled, IsSound, img, pins, with_pin, without_pin}
use Rattle.buf_pool.specs.Order.{order}
use Rattle.buf_pool.specs.Steps.{Changes, Stays, SameShown, SameHolds}
use Rattle.std.proofs.lemmas.Map.{keys-set_value}
use Rattle.buf_pool.proofs.FrameLemmas.{set-same, read-kept, by_bool, sound-changed, Changes-set, absent_stays, read-changed}

-- a frame that is written in place
module _ (v : Pooled) (p : PageId) (old w : Frame) (at : lookup (is_page p) v.entries ≡ Some old) where
  abbrev pub written : Pooled
  written = record v { entries = set_value (is_page p) v.entries w }

  pub changes-written : Changes p (Some w) v.entries written.entries
  changes-written = Changes-set v.entries p w (ap is_some at)

  pub img-written : w.image ≡ old.image → img written ≡ img v
  img-written e = λ i q. read-kept p (Some w) v.entries written.entries changes-written (λ (f : Frame). f.image) (image_at v.files.content) (e ∙ sym (ap (λ o. option_map_or (λ (f : Frame). f.image) o (image_at v.files.content p)) at)) q i

  pub pins-stay : w.pins ≡ old.pins → pins written ≡ pins v
  pins-stay e = λ i q. read-kept p (Some w) v.entries written.entries changes-written (λ (f : Frame). f.pins) (λ _. 0) (e ∙ sym (ap (λ o. option_map_or (λ (f : Frame). f.pins) o 0) at)) q i

  pub pins-written : w.pins ≡ old.pins + 1 → pins written ≡ with_pin (pins v) p
  pins-written e = λ i q. (read-changed p (Some w) v.entries written.entries changes-written (λ (f : Frame). f.pins) (λ _. 0) w.pins refl q
      ∙ by_bool (is_page p q)
      (λ t. let here : option_map_or (λ (f : Frame). f.pins) (lookup (is_page q) v.entries) 0 ≡ old.pins = ap (λ (r : PageId). option_map_or (λ (f : Frame). f.pins) (lookup (is_page r) v.entries) 0) (sym (is_page-true p q t)) ∙ ap (λ o. option_map_or (λ (f : Frame). f.pins) o 0) at in
      ap (λ b. cond b w.pins (pins v q)) t ∙ e ∙ ap (λ n. n + 1) (sym here) ∙ sym (ap (λ b. cond b (pins v q + 1) (pins v q)) t))
      (λ n. ap (λ b. cond b w.pins (pins v q)) n ∙ sym (ap (λ b. cond b (pins v q + 1) (pins v q)) n))) i

  pub sound-written : IsSound v → IsPage w.image → (IsTrue v.files.tells → w.dirty ≡ false → w.image ≡ image_at v.files.content p) → IsSound written
  sound-written sound page clean = sound-changed v written.entries p w changes-written sound (sound.there p (ap is_some at)) page clean

  -- the same page, dirty as it was
  pub sound-repinned : IsSound v → w.image ≡ old.image → w.dirty ≡ old.dirty → IsSound written
  sound-repinned sound image dirty =
      let was : img v p ≡ old.image = ap (λ o. option_map_or (λ (f : Frame). f.image) o (image_at v.files.content p)) at in
      sound-written sound (subst IsPage (was ∙ sym image) (sound.spelled p (ap is_some at)))
      (λ told clean. image ∙ sym was ∙ sound.clean told p (ap (λ o. option_map_or (λ (f : Frame). f.dirty) o false) at ∙ sym dirty ∙ clean))

  pub pins-taken : w.pins ≡ old.pins - 1 → pins written ≡ without_pin (pins v) p
  pins-taken e = λ i q. (read-changed p (Some w) v.entries written.entries changes-written (λ (f : Frame). f.pins) (λ _. 0) w.pins refl q
      ∙ by_bool (is_page p q)
      (λ t. let here : option_map_or (λ (f : Frame). f.pins) (lookup (is_page q) v.entries) 0 ≡ old.pins = ap (λ (r : PageId). option_map_or (λ (f : Frame). f.pins) (lookup (is_page r) v.entries) 0) (sym (is_page-true p q t)) ∙ ap (λ o. option_map_or (λ (f : Frame). f.pins) o 0) at in
      ap (λ b. cond b w.pins (pins v q)) t ∙ e ∙ ap (λ n. n - 1) (sym here) ∙ sym (ap (λ b. cond b (pins v q - 1) (pins v q)) t))
      (λ n. ap (λ b. cond b w.pins (pins v q)) n ∙ sym (ap (λ b. cond b (pins v q - 1) (pins v q)) n))) i

  pub img-set : img written ≡ set_at (img v) p w.image
  img-set = λ i q. read-changed p (Some w) v.entries written.entries changes-written (λ (f : Frame). f.image) (image_at v.files.content) w.image refl q i

  pub order-written : order written ≡ order v
  order-written = keys-set_value (is_page p) v.entries w

  pub here-written : lookup (is_page p) written.entries ≡ Some w
  here-written = changes-written p ∙ ap (λ b. cond b (Some w) (lookup (is_page p) v.entries)) (is_page-same p)

  pub stays-written : w.image ≡ old.image → w.pins ≡ old.pins → Stays v written
  stays-written image same = record {
    images = λ _. img-written image;
    held = λ q _ i. img-written image i q;
    pinned = pins-stay same;
    absent = absent_stays p (Some w) v.entries written.entries changes-written (ap is_some at);
    later = omega arith;
    frames = refl;
    tells = refl;
    counts = refl;
  }

  pub shown-written : w.image ≡ old.image → SameShown v written
  shown-written image = record { images = img-written image; order = order-written; files = refl; frames = refl }

  pub holds-written : w.pins ≡ old.pins → SameHolds v written
  holds-written same = record { pinned = pins-stay same; order = order-written; files = refl; frames = refl }

  pub img-here : img written p ≡ w.image
  img-here = ap (λ o. option_map_or (λ (f : Frame). f.image) o (image_at v.files.content p)) here-written

  -- one page's image is another, and no other page's
  pub img-alone : img written ≡ set_at (img v) p (img written p)
  img-alone = img-set ∙ ap (λ x. set_at (img v) p x) (sym img-here)

  pub unchanged : w ≡ old → written ≡ v
  unchanged e = ap (λ es. record v { entries = es }) (ap (λ f. set_value (is_page p) v.entries f) e ∙ set-same p v.entries old at)
